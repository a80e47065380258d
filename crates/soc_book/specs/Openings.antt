-- What a book opens with, and which journals it doesn't open.
use Rattle.std.specs.Prelude.{◌≡◌, ◌⊎◌, ℕ, IsTrue, List, [], ◌∷◌, ◌++◌, Option, None, IfSome, IsSome}
use Rattle.soc_raw.specs.Record.{Crash}
use Rattle.soc_schema.specs.declared.value.Cell.{Cell}
use Rattle.soc_edge.specs.Disk.{DiskTold}
use Rattle.soc_journal.specs.Entries.{Entry, place_behind}
use Rattle.soc_journal.specs.Text.{Begins, FirstBad}
use Rattle.soc_vault.specs.Openings.{AreEntriesOf, StandsSince}
use Rattle.soc_desk.specs.declared.desk.Limits.{Limits}
use Rattle.soc_desk.specs.Basis.{Basis}
use Rattle.soc_desk.specs.Log.{Kept, Change}
use Rattle.soc_desk.specs.Opens.{AreChanges, OpensWith, RefusesEntry}
use Rattle.soc_desk.specs.State.{State, settled}
use Rattle.soc_book.specs.declared.opening.Restored.{Restored}
use Rattle.soc_book.specs.inner.Stands.{Stands}

-- The basis is that of a book with this reporter and these limits. It says that the disk tells its content only where it
-- does.
pub record IsBasisOf (row_of : Crash → List Cell) (digest : Option (List ℕ)) (limits : Limits) (told : Option (List ℕ)) (basis : Basis) : Type 0 where
  pub rows : basis.row_of ≡ row_of
  pub digest_is : basis.digest ≡ digest
  pub bytes : basis.journal_bytes ≡ limits.journal_bytes
  pub crashes_are : basis.crashes ≡ limits.crashes
  pub tells : IsTrue basis.is_told → IsSome told

-- The book stands for the log of the disk's entries. Once the first sync is done, or the empty journal is made, each stop
-- leaves the journal of these.
pub record OpensBook (basis : Basis) (before after : DiskTold) (IsNow : State → Type 0) : Type 0 where
  pub entries : List Entry
  pub log : List Change
  pub found : IfSome before.content (λ bytes. AreEntriesOf bytes entries)
  pub opens : OpensWith basis entries log
  pub now : IsNow (settled log)
  pub stands : IfSome before.content (λ bytes. StandsSince before after bytes entries)

-- what was read of a journal stands for this state, over the disk that it was read of
abbrev pub RestoredFor : Basis → Limits → Restored → DiskTold → State → Type 0
RestoredFor basis limits restored disk state = Stands basis limits restored.ledger restored.store None restored.journal disk state

-- nothing of it is in doubt
abbrev pub IsSettled : Restored → Type 0
IsSettled restored = restored.journal.doubt ≡ None

-- what was read opens a book with this reporter and these limits
abbrev pub Restores : (Crash → List Cell) → Option (List ℕ) → Limits → DiskTold → Restored → DiskTold → Type 0
Restores row_of digest limits before restored after = (basis : Basis) → IsBasisOf row_of digest limits before.content basis
    → OpensBook basis before after (RestoredFor basis limits restored after)

-- the bytes break the grammar of a journal first at this place, and the entries before it are those of a legal log
pub record BreaksJournal (bytes : List ℕ) (place : ℕ) : Type 0 where
  pub bad : FirstBad bytes place
  pub entries : List Entry
  pub rest : List ℕ
  pub begins : Begins entries rest bytes
  pub behind : place ≡ place_behind entries
  pub kept : List Kept
  pub are : (basis : Basis) → AreChanges basis entries kept

-- the entries before this place are those of a legal log, and the one at it is no change that may follow them
pub record BreaksLog (bytes : List ℕ) (place : ℕ) : Type 0 where
  pub entries : List Entry
  pub entry : Entry
  pub rest : List ℕ
  pub begins : Begins (entries ++ entry ∷ []) rest bytes
  pub behind : place ≡ place_behind entries
  pub kept : List Kept
  pub are : (basis : Basis) → AreChanges basis entries kept
  pub refused : (basis : Basis) → RefusesEntry basis entries entry

-- the first place where neither an entry of a legal log nor the closed gate stands
abbrev pub StopsAtEntry : List ℕ → ℕ → Type 0
StopsAtEntry bytes place = BreaksJournal bytes place ⊎ BreaksLog bytes place
