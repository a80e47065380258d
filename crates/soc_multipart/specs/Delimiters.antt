-- Where a delimiter of a multipart body stands (RFC 2046, section 5.1.1). In this project's profile a
-- delimiter is a whole line with its own line ends, blanks may follow it, and nothing else may.
use Rattle.std.specs.Prelude.{◌≡◌, ◌≢◌, ℕ, ◌<◌, ◌≤◌, ◌⊎◌, Bool, false, ◌||◌, ◌==◌, List, [], ◌∷◌, ◌++◌, length, drop, codes}
use Rattle.std.specs.List.{AllPass, list_any}
use Rattle.std.specs.Char.{is_ascii_alphanumeric}
use Rattle.soc_text.specs.Blanks.{is_blank}
use Rattle.soc_text.specs.Lines.{crlf}
use Rattle.soc_multipart.specs.declared.delimiters.Ending.{Ending}
use Rattle.soc_multipart.specs.declared.delimiters.Ending.TheVariants.{Opening, Closing}

-- a byte of a boundary
abbrev pub is_boundary_byte : ℕ → Bool
is_boundary_byte byte = is_ascii_alphanumeric byte || list_any (λ c. c == byte) (codes " '()+_,-./:=?")

-- a boundary has 1 to 70 bytes and does not end in a space
pub record IsBoundary (boundary : List ℕ) : Type 0 where
  pub some : 0 < length boundary
  pub short : length boundary ≤ 70
  pub passes : AllPass is_boundary_byte boundary
  pub last : (front : List ℕ) → boundary ≢ front ++ codes " "

-- what each delimiter of a boundary begins with
abbrev pub mark_of : List ℕ → List ℕ
mark_of boundary = codes "\r\n--" ++ boundary

-- behind the mark of an opening delimiter: blanks and a line end, and then rest
pub record EndsOpening (after rest : List ℕ) : Type 0 where
  pub pad : List ℕ
  pub blanks : AllPass is_blank pad
  pub whole : after ≡ pad ++ (crlf ++ rest)

-- the text is empty or begins with a line end
abbrev pub EndsLine : List ℕ → Type 0
EndsLine text = (text ≡ []) ⊎ ((more : List ℕ) × (text ≡ crlf ++ more))

-- behind the mark of a closing delimiter: two dashes and blanks, and then a line end or nothing
pub record EndsClosing (after : List ℕ) : Type 0 where
  pub pad : List ℕ
  pub tail : List ℕ
  pub blanks : AllPass is_blank pad
  pub ended : EndsLine tail
  pub whole : after ≡ codes "--" ++ (pad ++ tail)

-- the text begins with an opening delimiter, which rest follows
pub record Opens (mark text rest : List ℕ) : Type 0 where
  pub after : List ℕ
  pub whole : text ≡ mark ++ after
  pub ends : EndsOpening after rest

-- the text begins with a closing delimiter
pub record Closes (mark text : List ℕ) : Type 0 where
  pub after : List ℕ
  pub whole : text ≡ mark ++ after
  pub ends : EndsClosing after

-- the text begins with a delimiter
abbrev pub IsAtDelimiter : List ℕ → List ℕ → Type 0
IsAtDelimiter mark text = ((rest : List ℕ) × Opens mark text rest) ⊎ Closes mark text

-- no place of the text has a delimiter
abbrev pub HasNoDelimiter : List ℕ → List ℕ → Type 0
HasNoDelimiter mark text = (i : ℕ) → ¬ (IsAtDelimiter mark (drop i text))

-- the text is front and then next, and no place of front has a delimiter
pub record Reaches (mark text front next : List ℕ) : Type 0 where
  pub whole : text ≡ front ++ next
  pub clear : (i : ℕ) → i < length front → ¬ (IsAtDelimiter mark (drop i text))

-- what stands behind a mark ends a delimiter so
abbrev pub EndsAs : List ℕ → Ending → Type 0
EndsAs after (Opening rest) = EndsOpening after rest.now
EndsAs after Closing = EndsClosing after

-- what stands behind a mark ends no delimiter
abbrev pub EndsNowise : List ℕ → Type 0
EndsNowise after = ((rest : List ℕ) → ¬ (EndsOpening after rest)) × (¬ (EndsClosing after))

-- the text begins with a delimiter of this kind
abbrev pub IsAt : List ℕ → List ℕ → Ending → Type 0
IsAt mark text (Opening rest) = Opens mark text rest.now
IsAt mark text Closing = Closes mark text

-- the first delimiter of the text is of this kind, and front stands before it
pub record MeetsFirst (mark text front : List ℕ) (end : Ending) : Type 0 where
  pub next : List ℕ
  pub reached : Reaches mark text front next
  pub stands : IsAt mark next end

-- the first delimiter of the text is of this kind, whatever stands before it
abbrev pub BeginsAt : List ℕ → List ℕ → Ending → Type 0
BeginsAt mark text end = (front : List ℕ) × MeetsFirst mark text front end

-- text is run and rest, each byte of run passes the test, and rest does not begin with one that does
pub record PartsRun (test : ℕ → Bool) (text run rest : List ℕ) : Type 0 where
  pub whole : text ≡ run ++ rest
  pub passes : AllPass test run
  pub stops : (b : ℕ) (more : List ℕ) → rest ≡ b ∷ more → test b ≡ false
