use Rattle.soc_multipart.proofs.Basics.{match_weaker, zero_from_test}
use Rattle.soc_multipart.proofs.ParamLemmas.{quoted_value, no_quoted_value, no_token_value}
use Rattle.soc_multipart.proofs.params.read_value.Goals as goal

pub returns-in-Some : goal.returns-in-Some
returns-in-Some c =
    match_weaker _ _ _ _ _ c.in_ok-found.ensures (no_quoted_value _ _ c.in-Some.ensures)
    (λ read. quoted_value _ _ _ _ c.in-Some.ensures)

pub returns-then-is_empty : goal.returns-then-is_empty
returns-then-is_empty c =
    no_token_value _ _ _ c.in_default.ensures c.split_token.ensures (zero_from_test _ _ c.is_empty.ensures c.if-is_empty.true)
