use Rattle.soc_multipart.proofs.HeadLemmas.{short_window}
use Rattle.soc_multipart.proofs.heads.first_bytes.Goals as goal

pub returns-then-piece-lt-HEAD_LIMIT : goal.returns-then-piece-lt-HEAD_LIMIT
returns-then-piece-lt-HEAD_LIMIT c = short_window c.args.piece.now c.if-piece-lt-HEAD_LIMIT.true
