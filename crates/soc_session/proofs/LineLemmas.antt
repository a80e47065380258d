-- Who asks, by the keys that were brought.
use Rattle.std.proofs.Common.{◌≡◌, ℕ, ◌≤◌, List, [], ◌∷◌, length, Option, ap, ◌∙◌, arith, slice_get}
use Rattle.std.specs.Prelude.{IfOk, Result, Ok, Err}
use Rattle.soc_base.specs.declared.no_memory.NoMemory.{NoMemory}
use Rattle.soc_schema.specs.declared.caller.Caller.{Caller}
use Rattle.soc_schema.specs.declared.caller.Products.{Products}
use Rattle.soc_schema.specs.declared.token.Token.{Token}
use Rattle.soc_schema.specs.TokenFile.{caller_of}
use Rattle.soc_session.specs.Lines.{caller_by_keys}

caller_of_few : (tokens : List Token) (public : Products) (keys : List (List ℕ)) (key : Option (List ℕ)) → key ≡ slice_get keys 0 → length keys ≤ 1
    → caller_of tokens key public ≡ caller_by_keys tokens public keys
caller_of_few tokens public [] key is few = ap (λ k. caller_of tokens k public) is
caller_of_few tokens public (k ∷ []) key is few = ap (λ k. caller_of tokens k public) is
caller_of_few tokens public (k ∷ l ∷ more) key is few = absurd (omega arith)

-- the one key, or none, says who asks
pub caller-of : (tokens : List Token) (public : Products) (keys : List (List ℕ)) (key : Option (List ℕ)) (found : Result (Option Caller) NoMemory)
    → key ≡ slice_get keys 0 → length keys ≤ 1 → IfOk found (λ caller. caller ≡ caller_of tokens key public)
    → IfOk found (λ caller. caller ≡ caller_by_keys tokens public keys)
caller-of tokens public keys key (Ok caller) is few found = found ∙ caller_of_few tokens public keys key is few
caller-of tokens public keys key (Err error) is few found = tt
