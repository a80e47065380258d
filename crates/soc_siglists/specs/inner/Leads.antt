-- What the matches of a pattern begin with.
use Rattle.std.specs.Prelude.{◌≡◌, ℕ, true, List}
use Rattle.regex.specs.Patterns.{Re, Matches, has_bytes_at}
use Rattle.soc_siglists.specs.Patterns.{matches_start}
use Rattle.soc_siglists.specs.inner.Literals.{IsFrame, begins_with}
use Rattle.soc_siglists.specs.declared.lead.Front.{Front}
use Rattle.soc_siglists.specs.declared.lead.Lead.{Lead}

-- it matches the empty text at each place
abbrev pub IsOptional : Re → Type 0
IsOptional re = (hay : List ℕ) (i : ℕ) → Matches hay re i i

-- each match at the start begins with these bytes
abbrev pub BeginsBy : Re → List ℕ → Type 0
BeginsBy re bytes = (hay : List ℕ) (j : ℕ) → Matches hay re 0 j → has_bytes_at hay 0 bytes ≡ true

-- where these bytes stand at the start there is a match
abbrev pub MatchesBy : Re → List ℕ → Type 0
MatchesBy re bytes = (hay : List ℕ) → has_bytes_at hay 0 bytes ≡ true → (j : ℕ) × Matches hay re 0 j

pub record IsFront (re : Re) (front : Front) : Type 0 where
  pub begins : BeginsBy re front.bytes.now
  pub all : front.is_all ≡ true → MatchesBy re front.bytes.now

pub record Leads (re : Re) (lead : Lead) : Type 0 where
  pub begins : BeginsBy re lead.text
  pub all : lead.is_all ≡ true → MatchesBy re lead.text

-- the frames that the pattern matches begin with the lead
abbrev pub IsLead : List ℕ → List ℕ → Type 0
IsLead pattern lead = (frame : List ℕ) → IsFrame frame → matches_start frame pattern ≡ true → begins_with frame lead ≡ true

-- the same, and these are all such frames
pub record IsLedBy (pattern : List ℕ) (lead : Lead) : Type 0 where
  pub begins : IsLead pattern lead.text
  pub all : lead.is_all ≡ true → (frame : List ℕ) → IsFrame frame → begins_with frame lead.text ≡ true → matches_start frame pattern ≡ true
