-- Who asks, by what a head's lines say.
use Rattle.std.specs.Prelude.{ℕ, List, [], ◌∷◌, Option, None, Some}
use Rattle.soc_schema.specs.declared.caller.Caller.{Caller}
use Rattle.soc_schema.specs.declared.caller.Products.{Products}
use Rattle.soc_schema.specs.declared.token.Token.{Token}
use Rattle.soc_schema.specs.TokenFile as token_file

-- who brings these keys: at most one key, and that of a token
abbrev pub caller_by_keys : List Token → Products → List (List ℕ) → Option Caller
caller_by_keys tokens public [] = token_file.caller_of tokens None public
caller_by_keys tokens public (key ∷ []) = token_file.caller_of tokens (Some key) public
caller_by_keys tokens public (_ ∷ _ ∷ _) = None
