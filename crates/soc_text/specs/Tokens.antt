-- Tokens (RFC 9110, 5.6.2).
use Rattle.std.specs.Prelude.{ℕ, ◌<◌, Bool, ◌||◌, ◌==◌, List, length, codes}
use Rattle.std.specs.List.{AllPass, list_any}
use Rattle.std.specs.Char.{is_ascii_alphanumeric}

-- a byte of a token
unfoldable pub is_token_byte : ℕ → Bool
is_token_byte byte = is_ascii_alphanumeric byte || list_any (λ c. c == byte) (codes "!#$%&'*+-.^_`|~")

-- one byte of a token or more
pub record IsToken (text : List ℕ) : Type 0 where
  pub some : 0 < length text
  pub passes : AllPass is_token_byte text
