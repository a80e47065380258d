-- What has come of a body behind a delimiter. Its last line alone may be a delimiter, or begin one.
use Rattle.std.specs.Prelude.{◌≡◌, ◌≢◌, ℕ, ◌-◌, ◌<◌, ◌≤◌, Bool, true, false, ◌==◌, not, List, [], ◌∷◌, ◌++◌, length, take, drop, Option, None, Some}
use Rattle.std.specs.List.{AllPass}
use Rattle.soc_text.specs.Lines.{carriage_return, line_feed, crlf}
use Rattle.soc_multipart.specs.declared.delimiters.Ending.{Ending}
use Rattle.soc_multipart.specs.declared.delimiters.Ending.TheVariants as end
use Rattle.soc_multipart.specs.declared.tails.Kind.{Kind}
use Rattle.soc_multipart.specs.declared.tails.Kind.TheVariants.{Opening, Closing}
use Rattle.soc_multipart.specs.Delimiters.{Opens, Closes, IsAtDelimiter, Reaches}

-- a byte inside a line, which a line feed ends
abbrev pub is_inline : ℕ → Bool
is_inline byte = not (byte == line_feed)

-- the bytes are the rest of a line with its line feed, or hold none
abbrev pub IsOfLine : List ℕ → Bool → Type 0
IsOfLine bytes true = (body : List ℕ) × (bytes ≡ body ++ line_feed ∷ []) × AllPass is_inline body
IsOfLine bytes false = AllPass is_inline bytes

-- no delimiter stands before that place of the text, whatever follows the text
abbrev pub IsClear : List ℕ → List ℕ → ℕ → Type 0
IsClear mark text place = (more : List ℕ) (i : ℕ) → i < place → ¬ (IsAtDelimiter mark (drop i (text ++ more)))

-- the text ends in this line, which a line end and front stand before, and no delimiter stands in front
pub record EndsInLine (mark text front line : List ℕ) : Type 0 where
  pub whole : text ≡ front ++ (crlf ++ line)
  pub inline : AllPass is_inline line
  pub clear : IsClear mark text (length front)

-- the line that may be a delimiter stands in the bytes from that place on
pub record HoldsLine (mark before bytes : List ℕ) (place : ℕ) : Type 0 where
  pub front : List ℕ
  pub inside : place ≤ length bytes
  pub ends : EndsInLine mark (before ++ bytes) front (drop place bytes)

-- a line that may be a delimiter stands there in the bytes, or none has begun
abbrev pub MayHoldLine : List ℕ → List ℕ → List ℕ → Option ℕ → Type 0
MayHoldLine mark before bytes None = IsClear mark (before ++ bytes) (length (before ++ bytes) - 1)
MayHoldLine mark before bytes (Some place) = HoldsLine mark before bytes place

-- so much is known of the bytes, where these came before
pub record Watches (mark before bytes : List ℕ) (line : Option ℕ) : Type 0 where
  pub no_return : (front : List ℕ) → before ≢ front ++ carriage_return ∷ []
  pub holds : MayHoldLine mark before bytes line

-- the same of the bytes before the line feed that they end with
pub record EndsLineIn (mark before bytes : List ℕ) (line : Option ℕ) : Type 0 where
  pub body : List ℕ
  pub whole : bytes ≡ body ++ line_feed ∷ []
  pub watches : Watches mark before body line

-- the same, and the line is no delimiter
pub record PassesLineIn (mark before bytes : List ℕ) (line : Option ℕ) : Type 0 where
  pub ended : EndsLineIn mark before bytes line
  pub clear : IsClear mark (before ++ bytes) (length (before ++ bytes) - 2)

-- the text begins with a delimiter of this kind, and rest stands behind an opening one
abbrev pub IsAtKind : List ℕ → List ℕ → List ℕ → Kind → Type 0
IsAtKind mark text rest Opening = Opens mark text rest
IsAtKind mark text rest Closing = Closes mark text

-- front and a line end are what came before that place of the bytes
pub record CutsAt (before bytes front : List ℕ) (place : ℕ) : Type 0 where
  pub inside : place ≤ length bytes
  pub cut : front ++ crlf ≡ before ++ take place bytes

-- the bytes end in a delimiter of this kind, whose line begins at that place; none stands in front
pub record MeetsIn (mark before bytes : List ℕ) (place : ℕ) (kind : Kind) : Type 0 where
  pub front : List ℕ
  pub next : List ℕ
  pub whole : before ++ bytes ≡ front ++ next
  pub clear : IsClear mark (before ++ bytes) (length front)
  pub stands : (more : List ℕ) → IsAtKind mark (next ++ more) more kind
  pub cuts : CutsAt before bytes front place

-- the body's end makes the line from that place on a closing delimiter
pub record ClosesIn (mark before bytes : List ℕ) (place : ℕ) : Type 0 where
  pub front : List ℕ
  pub next : List ℕ
  pub reaches : Reaches mark (before ++ bytes) front next
  pub stands : Closes mark next
  pub cuts : CutsAt before bytes front place

-- what the ending of a delimiter does
abbrev pub IsKindOf : Ending → Kind → Type 0
IsKindOf (end.Opening rest) kind = kind ≡ Opening
IsKindOf end.Closing kind = kind ≡ Closing
