use Rattle.std.proofs.Common.{[], ◌∷◌, refl}
use Rattle.std.proofs.lemmas.Slice.{pushed}
use Rattle.soc_multipart.specs.Params.{SpellsByte}
use Rattle.soc_multipart.proofs.Basics.{match_bool_yes}
use Rattle.soc_multipart.proofs.ChainLemmas.{chain_grow}
use Rattle.soc_multipart.proofs.ParamLemmas.{quoted_goes_on, quoted_stops}
use Rattle.soc_multipart.proofs.params.read_quoted.Goals as goal

pub returns-then-begins_with_token_byte : goal.returns-then-begins_with_token_byte
returns-then-begins_with_token_byte c =
    quoted_goes_on _ _ _ _ c.loop-behind.invariant c.in-Some.ensures
    (match_bool_yes _ _ _ c.begins_with_token_byte.ensures c.if-begins_with_token_byte.true)

pub returns-in_default-spelled_byte : goal.returns-in_default-spelled_byte
returns-in_default-spelled_byte c =
    quoted_stops _ _ _ c.loop-behind.invariant c.in_default.ensures c.in_default-spelled_byte.ensures

pub loop-behind-preserved : goal.loop-behind-preserved
loop-behind-preserved c =
    chain_grow SpellsByte _ _ _ _ _ _ c.loop-behind.invariant c.in-Some-spelled_byte.ensures
    (pushed (c.in-Some-spelled_byte.byte ∷ []) refl c.in_ok-push.was c.push.ensures.items)
