use Rattle.soc_multipart.proofs.HeadLemmas.{no_colon, no_line_end}
use Rattle.soc_multipart.proofs.heads.read_line.Goals as goal

pub returns-in_err-tail : goal.returns-in_err-tail
returns-in_err-tail c = rw c.from_residual.ensures (no_colon _ _ _ c.split_token.ensures c.in_err-tail.ensures)

pub returns-in_err-rest : goal.returns-in_err-rest
returns-in_err-rest c =
    rw c.from_residual-in_err-rest.ensures
    (no_line_end _ _ _ _ _ _ c.split_token.ensures c.in_ok-tail.ensures c.split_line_bytes.ensures c.in_err-rest.ensures)
