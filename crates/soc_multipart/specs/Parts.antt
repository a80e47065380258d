-- The parts of a multipart body (RFC 2046, section 5.1.1; RFC 7578) in this project's profile, and the
-- first reason why a body has none.
use Rattle.std.specs.Prelude.{◌≡◌, ◌≢◌, ℕ, ◌+◌, ◌<◌, ◌≤◌, ◌⊎◌, List, [], ◌++◌, length, Option}
use Rattle.soc_multipart.specs.declared.parts.PartsError.{PartsError}
use Rattle.soc_multipart.specs.declared.parts.PartsError.TheVariants.{BadBoundary, NoFirst, BadPartHead, NoClose, TooManyParts, NoMemory}
use Rattle.soc_multipart.specs.Chains.{Chain}
use Rattle.soc_multipart.specs.Delimiters.{IsBoundary, mark_of, Opens, Closes, IsAtDelimiter, HasNoDelimiter, Reaches}
use Rattle.soc_text.specs.Lines.{crlf}
use Rattle.soc_multipart.specs.Heads.{head_limit, LineText, ReadsLine, IsHead, MayBeHead, EndsInContent}

-- the most parts that a body has
abbrev pub parts_limit : ℕ
parts_limit = 512

-- a part: its name, its file's name, its kind and its content
pub record PartText : Type 0 where
  pub name : List ℕ
  pub file : Option (List ℕ)
  pub kind : List ℕ
  pub content : List ℕ

-- behind the head lines: nothing, or an empty line and the content
abbrev pub EndsHead : List ℕ → List ℕ → Type 0
EndsHead tail content = ((tail ≡ []) × (content ≡ [])) ⊎ (tail ≡ crlf ++ content)

-- the piece is these head lines and this content, and the head ends within the limit
pub record HoldsHead (piece : List ℕ) (lines : List LineText) (content : List ℕ) : Type 0 where
  pub tail : List ℕ
  pub in_order : Chain ReadsLine piece lines tail
  pub ends : EndsHead tail content
  pub short : length piece ≤ head_limit + length content

-- the piece is this part
pub record IsPart (piece : List ℕ) (part : PartText) : Type 0 where
  pub lines : List LineText
  pub holds : HoldsHead piece lines part.content
  pub says : IsHead lines part.name part.file part.kind

-- no line ends in the text
abbrev pub HasNoLineEnd : List ℕ → Type 0
HasNoLineEnd text = (front back : List ℕ) → text ≢ front ++ (crlf ++ back)

-- the piece, which the body's end cuts off, ends its head within the limit, and the head is good
pub record CutsContent (piece : List ℕ) : Type 0 where
  pub lines : List LineText
  pub content : List ℕ
  pub name : List ℕ
  pub file : Option (List ℕ)
  pub kind : List ℕ
  pub ends : EndsInContent piece lines content
  pub says : IsHead lines name file kind

-- the piece, which the body's end cuts off before the limit, does not end its head, and the lines that it
-- ends are good so far
pub record CutsHead (piece : List ℕ) : Type 0 where
  pub lines : List LineText
  pub tail : List ℕ
  pub in_order : Chain ReadsLine piece lines tail
  pub open_line : HasNoLineEnd tail
  pub short : length piece < head_limit
  pub may_be : MayBeHead lines

-- the piece, which the body's end cuts off, is no bad part yet
abbrev pub MayBePart : List ℕ → Type 0
MayBePart piece = CutsContent piece ⊎ CutsHead piece

-- at an opening delimiter: a part, up to the next delimiter
pub record ReadsPart (mark text : List ℕ) (part : PartText) (next : List ℕ) : Type 0 where
  pub rest : List ℕ
  pub piece : List ℕ
  pub opens : Opens mark text rest
  pub reaches : Reaches mark rest piece next
  pub stands : IsAtDelimiter mark next
  pub is_part : IsPart piece part

-- the body holds these parts, and a delimiter stands behind them, where next begins. The body is looked
-- at with a line end before it
pub record HoldsParts (boundary body : List ℕ) (parts : List PartText) (next : List ℕ) : Type 0 where
  pub preamble : List ℕ
  pub first : List ℕ
  pub reaches : Reaches (mark_of boundary) (crlf ++ body) preamble first
  pub stands : IsAtDelimiter (mark_of boundary) first
  pub in_order : Chain (ReadsPart (mark_of boundary)) first parts next

-- the body holds these parts and no others
pub record Cut (boundary body : List ℕ) (parts : List PartText) : Type 0 where
  pub last : List ℕ
  pub good : IsBoundary boundary
  pub few : length parts ≤ parts_limit
  pub holds : HoldsParts boundary body parts last
  pub closes : Closes (mark_of boundary) last

-- so many parts are good, and behind them a delimiter opens one more, which begins the rest
pub record OpensAfter (boundary body : List ℕ) (count : ℕ) (rest : List ℕ) : Type 0 where
  pub parts : List PartText
  pub last : List ℕ
  pub good : IsBoundary boundary
  pub counted : length parts ≡ count
  pub holds : HoldsParts boundary body parts last
  pub opens : Opens (mark_of boundary) last rest

-- the part that the rest begins with is bad: up to the next delimiter, or up to the body's end
abbrev pub BeginsBadPart : List ℕ → List ℕ → Type 0
BeginsBadPart mark rest =
    ((piece : List ℕ) × (next : List ℕ) × Reaches mark rest piece next × IsAtDelimiter mark next × ((part : PartText) → ¬ (IsPart piece part)))
    ⊎ (HasNoDelimiter mark rest × (¬ (MayBePart rest)))

-- the refusal of a part that the rest begins with and that so many parts come before
abbrev pub PartFault : List ℕ → List ℕ → ℕ → PartsError → Type 0
PartFault mark rest count (BadPartHead part) = (part ≡ count) × BeginsBadPart mark rest
PartFault mark rest count NoClose = HasNoDelimiter mark rest × MayBePart rest
PartFault mark rest count BadBoundary = ⊥
PartFault mark rest count NoFirst = ⊥
PartFault mark rest count TooManyParts = ⊥
PartFault mark rest count NoMemory = ⊥

-- the refusal that stands first in the body. Want of memory is none of the body's
abbrev pub CutFault : List ℕ → List ℕ → PartsError → Type 0
CutFault boundary body BadBoundary = ¬ (IsBoundary boundary)
CutFault boundary body NoFirst = IsBoundary boundary × HasNoDelimiter (mark_of boundary) (crlf ++ body)
CutFault boundary body (BadPartHead part) =
    (rest : List ℕ) × OpensAfter boundary body part rest × (part < parts_limit) × BeginsBadPart (mark_of boundary) rest
CutFault boundary body NoClose =
    (count : ℕ) × (rest : List ℕ) × OpensAfter boundary body count rest × (count < parts_limit)
    × HasNoDelimiter (mark_of boundary) rest × MayBePart rest
CutFault boundary body TooManyParts = (rest : List ℕ) × OpensAfter boundary body parts_limit rest
CutFault boundary body NoMemory = ⊥

-- at most one list of parts is a body's
abbrev pub IsOneCut : Type 0
IsOneCut = (boundary body : List ℕ) (parts parts' : List PartText) → Cut boundary body parts → Cut boundary body parts' → parts ≡ parts'

-- a body that has parts has no refusal, and no body has two
pub record IsOneFault : Type 0 where
  pub not_cut : (boundary body : List ℕ) (parts : List PartText) (fault : PartsError) → Cut boundary body parts → ¬ (CutFault boundary body fault)
  pub once : (boundary body : List ℕ) (fault fault' : PartsError) → CutFault boundary body fault → CutFault boundary body fault' → fault ≡ fault'
