-- What is found on a disk when its journal is opened, and what the opening leaves.
use Rattle.std.specs.Prelude.{◌≡◌, ◌⊎◌, ℕ, ◌+◌, ◌≤◌, None, IfSome, List, [], ◌∷◌, ◌++◌, length}
use Rattle.soc_edge.specs.Disk.{DiskTold, IsTorn}
use Rattle.soc_journal.specs.Entries.{Entry, entries_text, place_behind}
use Rattle.soc_journal.specs.Text.{Begins, JournalText, FirstBad, empty_journal}
use Rattle.soc_journal.specs.States.{JournalState}
use Rattle.soc_vault.specs.declared.recovery.Found.{Found}
use Rattle.soc_vault.specs.Vaults.{Means}

abbrev pub entry_of : Found → Entry
entry_of found = record { kind = found.kind; body = found.body }

-- where the next entry stands, if these stand one behind the other from a place on
abbrev pub place_from : ℕ → List Entry → ℕ
place_from start entries = start + length (entries_text entries)

-- the entries of a disk's bytes: those of its journal, and none where there are no bytes
abbrev pub AreEntriesOf : List ℕ → List Entry → Type 0
AreEntriesOf bytes entries = ((bytes ≡ []) × (entries ≡ [])) ⊎ JournalText entries bytes

-- what a stop may leave before the journal stands: what it might have left before, or of a disk without bytes what the write
-- of an empty journal, cut short, makes of it
abbrev pub FirstLeaves : (List ℕ → Type 0) → List ℕ → List ℕ → Type 0
FirstLeaves images bytes image = images image ⊎ ((bytes ≡ []) × IsTorn images 0 (length empty_journal) image)

-- what a stop during an opening may leave: that, or a journal of the disk's entries
abbrev pub OpeningLeaves : (List ℕ → Type 0) → List ℕ → List ℕ → Type 0
OpeningLeaves images bytes image = FirstLeaves images bytes image ⊎ ((entries : List Entry) × AreEntriesOf bytes entries × JournalText entries image)

-- from this moment of a call on, each stop leaves a journal of these entries; until then it leaves those first images
pub record StandsSince (before after : DiskTold) (bytes : List ℕ) (entries : List Entry) : Type 0 where
  pub moment : ℕ
  pub begins : before.moment ≤ moment
  pub ends : moment ≤ after.moment
  pub until : (image : List ℕ) → after.since before.moment image → after.since moment image ⊎ FirstLeaves before.images bytes image
  pub each : (image : List ℕ) → after.since moment image → JournalText entries image

-- The entries that were given are all that the disk's bytes have, and the disk holds their journal. Once the first sync is
-- done, or the empty journal is made, each stop leaves it.
pub record Opens (was_given : ℕ → List Entry → Type 0) (limit : ℕ) (before after : DiskTold) (journal : JournalState) : Type 0 where
  pub start : ℕ
  pub entries : List Entry
  pub given : was_given start entries
  pub journal_is : journal ≡ record { gate = place_from start entries; limit = limit; doubt = None }
  pub found : IfSome before.content (λ bytes. AreEntriesOf bytes entries)
  pub means : IfSome before.content (λ bytes. Means after journal entries [])
  pub stands : IfSome before.content (λ bytes. StandsSince before after bytes entries)

-- the bytes break the grammar first at this place, and no entry was refused: all that stand before it were given, and taken
pub record BreaksAt (was_given : ℕ → List Entry → Type 0) (bytes : List ℕ) (place : ℕ) : Type 0 where
  pub bad : FirstBad bytes place
  pub start : ℕ
  pub entries : List Entry
  pub rest : List ℕ
  pub given : was_given start entries
  pub begins : Begins entries rest bytes
  pub behind : place ≡ place_behind entries

-- behind the first entries of the bytes, at this place, stands one that is refused, once those before were taken
pub record RefusedAt {Into : Type 0} (was_given : Into → ℕ → List Entry → Type 0) (refuses : List Entry → Entry → Type 0) (bytes : List ℕ) (place : ℕ) : Type 0 where
  pub start : ℕ
  pub entries : List Entry
  pub entry : Entry
  pub rest : List ℕ
  pub begins : Begins (entries ++ entry ∷ []) rest bytes
  pub behind : place ≡ place_behind entries
  pub into : Into
  pub taken : was_given into start entries
  pub refused : refuses entries entry

-- No journal's entries that are all taken: a break of the grammar, or an entry that is refused, stands at this place.
-- `now` is whoever takes them, at the end.
abbrev pub StopsAt : {Into : Type 0} → (Into → ℕ → List Entry → Type 0) → (List Entry → Entry → Type 0) → Into → List ℕ → ℕ → Type 0
StopsAt was_given refuses now bytes place = BreaksAt (was_given now) bytes place ⊎ RefusedAt was_given refuses bytes place
