-- Where a reader stands in a body that it reads in pieces.
use Rattle.std.specs.Prelude.{◌≡◌, ◌≢◌, ℕ, ◌-◌, ◌<◌, ◌≤◌, ◌⊎◌, Bool, true, false, List, [], ◌++◌, length, take, Option, Some, ⊤}
use Rattle.soc_text.specs.Lines.{crlf}
use Rattle.soc_multipart.specs.declared.dispositions.Head.{Head}
use Rattle.soc_multipart.specs.declared.owned_parts.OwnedPart.{OwnedPart}
use Rattle.soc_multipart.specs.declared.sections.Section.{Section}
use Rattle.soc_multipart.specs.declared.sections.Section.TheVariants.{Preamble, InHead, InContent, Closed}
use Rattle.soc_multipart.specs.declared.sections.GoodHead.{GoodHead}
use Rattle.soc_multipart.specs.declared.sections.State.{State}
use Rattle.soc_multipart.specs.declared.sections.Verdict.{Verdict}
use Rattle.soc_multipart.specs.declared.sections.Verdict.TheVariants.{Undecided, Bad, Good}
use Rattle.soc_multipart.specs.declared.tails.Kind.{Kind}
use Rattle.soc_multipart.specs.Delimiters.{IsBoundary, mark_of, Opens, Closes, HasNoDelimiter, IsAtDelimiter, Reaches}
use Rattle.soc_multipart.specs.OwnedViews.{owned_texts}
use Rattle.soc_multipart.specs.Parts.{PartText, BeginsBadPart, IsPart, MayBePart, HoldsParts, parts_limit}
use Rattle.soc_multipart.specs.inner.Tails.{IsAtKind}

-- what is known of bytes and the line that they end in, where others came before
abbrev pub Knows : Type 1
Knows = List ℕ → List ℕ → List ℕ → Option ℕ → Type 0

-- the part of this head with this content
abbrev pub part_with : Head → List ℕ → PartText
part_with head content = record { name = head.name; file = head.file; kind = head.kind; content = content }

-- the text is a good head, whether a delimiter follows it, or an empty line and content
pub record IsGoodHead (text : List ℕ) (head : Head) : Type 0 where
  pub alone : IsPart text (part_with head [])
  pub before_content : (content : List ℕ) → IsPart (text ++ (crlf ++ content)) (part_with head content)
  pub cut_off : (content : List ℕ) → MayBePart (text ++ (crlf ++ content))

-- no part begins with the text
pub record BeginsNoPart (text : List ℕ) : Type 0 where
  pub never : (more : List ℕ) (part : PartText) → ¬ (IsPart (text ++ more) part)
  pub never_cut : (more : List ℕ) → ¬ (MayBePart (text ++ more))

-- each body that begins with what was fed has these parts, and then a delimiter opens one more, which begins with rest
abbrev pub OpensFor : List ℕ → List ℕ → List PartText → List ℕ → Type 0
OpensFor boundary fed parts rest =
    (more : List ℕ) → (last : List ℕ) × HoldsParts boundary (fed ++ more) parts last × Opens (mark_of boundary) last (rest ++ more)

-- each body that begins with what was fed has these parts, and then a delimiter closes it
abbrev pub ClosesFor : List ℕ → List ℕ → List PartText → Type 0
ClosesFor boundary fed parts =
    (more : List ℕ) → (last : List ℕ) × HoldsParts boundary (fed ++ more) parts last × Closes (mark_of boundary) last

-- each body that begins with what was fed has these parts, and then a delimiter of this kind
abbrev pub MeetsFor : List ℕ → List ℕ → List PartText → Kind → Type 0
MeetsFor boundary fed parts kind =
    (more : List ℕ) → (last : List ℕ) × HoldsParts boundary (fed ++ more) parts last × IsAtKind (mark_of boundary) last more kind

-- what was fed leads to these parts and this section, of whose bytes so much is known
abbrev pub StandsIn : Knows → List ℕ → List ℕ → List PartText → Section → List ℕ → Option ℕ → Type 0
StandsIn knows boundary fed parts Preamble bytes line =
    (parts ≡ []) × ((before : List ℕ) × (crlf ++ fed ≡ before ++ bytes) × knows (mark_of boundary) before bytes line)
StandsIn knows boundary fed parts InHead bytes line =
    OpensFor boundary fed parts bytes × (length parts < parts_limit) × knows (mark_of boundary) [] bytes line
StandsIn knows boundary fed parts (InContent head) bytes line =
    (text : List ℕ) × IsGoodHead text head × OpensFor boundary fed parts ((text ++ crlf) ++ bytes) × (length parts < parts_limit)
    × knows (mark_of boundary) (text ++ crlf) bytes line
StandsIn knows boundary fed parts Closed bytes line = ClosesFor boundary fed parts × (length parts ≤ parts_limit)

-- the same of a state
pub record Stands (knows : Knows) (boundary fed : List ℕ) (state : State) : Type 0 where
  pub good : IsBoundary boundary
  pub stands : StandsIn knows boundary fed (owned_texts state.parts.items) state.section state.tail.bytes.items state.tail.line

-- the part that a delimiter ends at next, in this body
pub record EndsPart (boundary body : List ℕ) (parts : List PartText) (piece next : List ℕ) : Type 0 where
  pub last : List ℕ
  pub rest : List ℕ
  pub few : length parts < parts_limit
  pub holds : HoldsParts boundary body parts last
  pub opens : Opens (mark_of boundary) last rest
  pub reaches : Reaches (mark_of boundary) rest piece next
  pub stands : IsAtDelimiter (mark_of boundary) next

-- the body's end cuts off the part that begins with rest
pub record CutsPartOff (boundary body : List ℕ) (parts : List PartText) (rest : List ℕ) : Type 0 where
  pub last : List ℕ
  pub few : length parts < parts_limit
  pub holds : HoldsParts boundary body parts last
  pub opens : Opens (mark_of boundary) last rest
  pub none : HasNoDelimiter (mark_of boundary) rest

-- the delimiter at next ends the section in this body, and its line begins at that place of the bytes
abbrev pub EndsSection : List ℕ → List ℕ → List PartText → Section → List ℕ → ℕ → List ℕ → Type 0
EndsSection boundary body parts Preamble bytes place next =
    (parts ≡ []) × ((front : List ℕ) × Reaches (mark_of boundary) (crlf ++ body) front next × IsAtDelimiter (mark_of boundary) next)
EndsSection boundary body parts InHead bytes place next = EndsPart boundary body parts (take (place - 2) bytes) next
EndsSection boundary body parts (InContent head) bytes place next =
    (piece : List ℕ) × IsPart piece (part_with head (take (place - 2) bytes)) × EndsPart boundary body parts piece next
EndsSection boundary body parts Closed bytes place next = ⊥

-- what bytes say of the part that they begin
abbrev pub Judges : List ℕ → List ℕ → Verdict → Type 0
Judges mark text Undecided = ⊤
Judges mark text Bad = (more : List ℕ) → BeginsBadPart mark (text ++ more)
Judges mark text (Good good) = (front : List ℕ) × (text ≡ front ++ (crlf ++ good.content.items)) × IsGoodHead front good.head × ((line : List ℕ) × (text ≡ line ++ crlf))

-- the same of lines, where front and a line end are the bytes: a delimiter may stand behind front
abbrev pub JudgesLines : List ℕ → List ℕ → Verdict → Type 0
JudgesLines text front Undecided = ⊤
JudgesLines text front Bad = ((part : PartText) → ¬ (IsPart front part)) × BeginsNoPart text
JudgesLines text front (Good good) = (lines : List ℕ) × (text ≡ lines ++ (crlf ++ good.content.items)) × IsGoodHead lines good.head

-- whether a section is the one behind the closing delimiter
abbrev pub IsClosed : Section → Bool → Type 0
IsClosed section true = section ≡ Closed
IsClosed section false = section ≢ Closed

-- whether a section is a head
abbrev pub IsOfHead : Section → Bool → Type 0
IsOfHead section true = section ≡ InHead
IsOfHead section false = ⊤

-- the state behind a good head, whose content goes on
abbrev pub GoesOnBehind : List OwnedPart → GoodHead → State → Type 0
GoesOnBehind parts good state =
    (state.parts.items ≡ parts) × (state.section ≡ InContent good.head) × (state.tail.bytes.items ≡ good.content.items)
    × (state.tail.line ≡ Some (length good.content.items))

-- the body ends in this section, and no delimiter ends the section
abbrev pub IsCutOff : List ℕ → List ℕ → List PartText → Section → List ℕ → Type 0
IsCutOff boundary body parts Preamble bytes = HasNoDelimiter (mark_of boundary) (crlf ++ body)
IsCutOff boundary body parts InHead bytes = CutsPartOff boundary body parts bytes
IsCutOff boundary body parts (InContent head) bytes = (rest : List ℕ) × MayBePart rest × CutsPartOff boundary body parts rest
IsCutOff boundary body parts Closed bytes = ⊥
