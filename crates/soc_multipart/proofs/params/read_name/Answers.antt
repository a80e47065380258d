use Rattle.soc_multipart.proofs.Basics.{zero_from_test, some_from_test}
use Rattle.soc_multipart.proofs.ParamLemmas.{no_semicolon, no_name, no_equals, name_by_parts}
use Rattle.soc_multipart.proofs.params.read_name.Goals as goal

pub returns-in_err-tail : goal.returns-in_err-tail
returns-in_err-tail c =
    rw c.from_residual.ensures
    (no_semicolon _ _ _ c.skip_gap.ensures.skips c.skip_gap.ensures.stops c.in_err-tail.ensures)

pub returns-then-is_empty : goal.returns-then-is_empty
returns-then-is_empty c =
    no_name _ _ _ _ _ _ _ _ c.skip_gap.ensures.skips c.skip_gap.ensures.stops c.in_ok-tail.ensures c.split_blanks.ensures
    c.split_token.ensures (zero_from_test _ _ c.is_empty.ensures c.if-is_empty.true)

pub returns-in_err-rest : goal.returns-in_err-rest
returns-in_err-rest c =
    rw c.from_residual-in_err-rest.ensures
    (no_equals _ _ _ _ _ _ _ _ c.skip_gap.ensures.skips c.skip_gap.ensures.stops c.in_ok-tail.ensures c.split_blanks.ensures
    c.split_token.ensures c.in_err-rest.ensures)

pub returns : goal.returns
returns c =
    name_by_parts _ _ _ _ _ _ _ _ _ c.skip_gap.ensures.skips c.in_ok-tail.ensures c.split_blanks.ensures c.split_token.ensures
    (some_from_test _ _ c.is_empty.ensures c.if-is_empty.false) c.in_ok-rest.ensures
