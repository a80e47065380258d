-- Whose view is asked for, by the first line of an input. This project's profile.
use Rattle.std.specs.Prelude.{◌≡◌, ℕ, ◌==◌, Bool, if◌then◌else◌, IfSome, List, [], ◌∷◌, Option, None, Some}
use Rattle.std.specs.Char.{is_ascii_graphic}
use Rattle.std.specs.List.{before_first}
use Rattle.soc_toml.specs.Keys.{has_form}
use Rattle.soc_schema.specs.declared.caller.Caller.{Caller}
use Rattle.soc_schema.specs.declared.caller.Products.{Products}
use Rattle.soc_schema.specs.declared.token.Token.{Token}
use Rattle.soc_schema.specs.TokenFile.{caller_of}
use Rattle.soc_edge.specs.Told.{Told, OnlyReads}

abbrev pub line_feed : ℕ
line_feed = 10

abbrev pub is_line_feed : ℕ → Bool
is_line_feed byte = byte == line_feed

-- a token's key has no more bytes
abbrev pub most_key : ℕ
most_key = 64

abbrev pub first_line : List ℕ → List ℕ
first_line input = before_first is_line_feed input

-- who asks by this line: everybody by an empty one, else who has the token of the key
abbrev pub caller_by_line : List Token → Products → List ℕ → Option Caller
caller_by_line tokens public [] = caller_of tokens None public
caller_by_line tokens public (byte ∷ bytes) =
    if has_form is_ascii_graphic most_key (byte ∷ bytes) then caller_of tokens (Some (byte ∷ bytes)) public else None

-- the input was read to the end of its first line at least, and this is who asks by it
pub record Asks (tokens : List Token) (public : Products) (before after : Told) (caller : Option Caller) : Type 0 where
  pub only : OnlyReads before after
  pub by_line : IfSome before.left (λ input. caller ≡ caller_by_line tokens public (first_line input))
