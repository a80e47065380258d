-- An opening as contracts see it, and what it has read of a disk.
use Rattle.std.specs.Prelude.{◌≡◌, ℕ, ◌+◌, ◌≤◌, Bool, IsTrue, Option, Some, None, Result, Ok, Err, List, [], ◌∷◌, ◌++◌, length, ⊤}
use Rattle.soc_edge.specs.Disk.{Only}
use Rattle.soc_journal.specs.Entries.{Entry, has_kind, max_body, head_size, place_behind}
use Rattle.soc_journal.specs.Text.{version_of, Begins, JournalText, FirstBad, StandsAt}
use Rattle.soc_journal.specs.declared.mark.Mark.{Mark}
use Rattle.soc_journal.specs.declared.error.OpenError.{OpenError}
use Rattle.soc_journal.specs.declared.error.OpenError.TheVariants.{NotOurs, StoreFault, BadEntry, NoMemory}

-- a head of this kind and length is that of an entry, of a kind that the version has, which ends at or before the end
pub record Counts (version kind count place end : ℕ) : Type 0 where
  pub known : IsTrue (has_kind version kind)
  pub short : count ≤ max_body
  pub fits : place + head_size + count ≤ end

-- an opening: the place of the next gate, how many bytes the disk has, the version byte, the journal's limit, and
-- whether the closed gate was found
pub record OpeningState : Type 0 where
  pub place : ℕ
  pub length : ℕ
  pub version : ℕ
  pub limit : ℕ
  pub ended : Bool

-- the opening has read these entries, and the disk's one image is its content
pub record HasRead (opening : OpeningState) (entries : List Entry) (bytes : List ℕ) (images : List ℕ → Type 0) : Type 0 where
  pub rest : List ℕ
  pub begins : Begins entries rest bytes
  pub behind : opening.place ≡ place_behind entries
  pub size : opening.length ≡ length bytes
  pub same_version : opening.version ≡ version_of bytes
  pub only : Only bytes images

-- the mark names this entry at this place
pub record Marks (mark : Mark) (place : ℕ) (entry : Entry) : Type 0 where
  pub at : mark.place ≡ place
  pub kind : mark.kind ≡ entry.kind
  pub count : mark.length ≡ length entry.body

-- the opening has read these entries, and they are all: the closed gate follows
pub record HasReadAll (opening : OpeningState) (entries : List Entry) (bytes : List ℕ) (images : List ℕ → Type 0) : Type 0 where
  pub text : JournalText entries bytes
  pub reads : HasRead opening entries bytes images

-- one more entry stands behind these, and this is its mark
pub record HasReadMore (opening : OpeningState) (entries : List Entry) (mark : Mark) (bytes : List ℕ) (images : List ℕ → Type 0) : Type 0 where
  pub entry : Entry
  pub marks : Marks mark (place_behind entries) entry
  pub stands : StandsAt bytes (place_behind entries) entry
  pub reads : HasRead opening (entries ++ entry ∷ []) bytes images

-- what an opening that has read some entries finds behind them
abbrev pub Finds : List Entry → List ℕ → (List ℕ → Type 0) → Result (Option Mark) OpenError → OpeningState → Type 0
Finds entries bytes images (Ok (Some mark)) opening = HasReadMore opening entries mark bytes images
Finds entries bytes images (Ok None) opening = HasReadAll opening entries bytes images
Finds entries bytes images (Err (BadEntry place)) opening = FirstBad bytes place
Finds entries bytes images (Err NotOurs) opening = ⊥
Finds entries bytes images (Err StoreFault) opening = ⊤
Finds entries bytes images (Err NoMemory) opening = ⊥
