-- What a reader of a body that comes in pieces says. Its refusals are those that no continuation lifts, and what
-- it gives at the end is what the whole body has (`Cut`, `CutFault`).
use Rattle.std.specs.Prelude.{◌≡◌, ℕ, ◌⊎◌, List, ◌++◌, Option, None, Some}
use Rattle.soc_multipart.specs.declared.parts.PartsError.{PartsError}
use Rattle.soc_multipart.specs.declared.parts.PartsError.TheVariants.{BadBoundary, NoMemory}
use Rattle.soc_multipart.specs.declared.sections.Section.{Section}
use Rattle.soc_multipart.specs.Delimiters.{IsBoundary}
use Rattle.soc_multipart.specs.Parts.{PartText, Cut, CutFault}
use Rattle.soc_multipart.specs.inner.Sections.{StandsIn}
use Rattle.soc_multipart.specs.inner.Tails.{Watches}

-- a reader: the parts that have ended, what it keeps of the section that has not, and its refusal
pub record ReaderText : Type 0 where
  pub boundary : List ℕ
  pub parts : List PartText
  pub section : Section
  pub bytes : List ℕ
  pub line : Option ℕ
  pub fault : Option PartsError

-- the reader was fed these bytes, and has not refused
pub record WasFed (reader : ReaderText) (fed : List ℕ) : Type 0 where
  pub accepts : reader.fault ≡ None
  pub good : IsBoundary reader.boundary
  pub stands : StandsIn Watches reader.boundary fed reader.parts reader.section reader.bytes reader.line

-- the reader has refused so
abbrev pub HasRefused : ReaderText → PartsError → Type 0
HasRefused reader fault = reader.fault ≡ Some fault

-- the refusal is want of memory, or that of each body that begins with what was fed
abbrev pub RefusesFor : List ℕ → List ℕ → PartsError → Type 0
RefusesFor boundary fed error = (error ≡ NoMemory) ⊎ ((more : List ℕ) → CutFault boundary (fed ++ more) error)

-- the refusal is want of memory, or that of the body
abbrev pub RefusesBody : List ℕ → List ℕ → PartsError → Type 0
RefusesBody boundary body error = (error ≡ NoMemory) ⊎ CutFault boundary body error

-- the parts that have ended are the first parts of each body that begins with what was fed
abbrev pub PartsStay : Type 0
PartsStay =
    (reader : ReaderText) (fed more : List ℕ) (parts : List PartText) → WasFed reader fed → Cut reader.boundary (fed ++ more) parts
    → (later : List PartText) × (parts ≡ reader.parts ++ later)

-- the boundary is none of RFC 2046, or memory is wanting
abbrev pub IsBadBoundary : List ℕ → PartsError → Type 0
IsBadBoundary boundary error = (error ≡ NoMemory) ⊎ ((error ≡ BadBoundary) × (¬ (IsBoundary boundary)))
