-- A journal as contracts see it, and what a disk holds of it.
use Rattle.std.specs.Prelude.{◌≡◌, ◌≢◌, ℕ, ◌+◌, Option, Some, None, Result, Ok, Err, List, [], ◌∷◌, ◌++◌, length, slice_get, unwrap_or, ⊤}
use Rattle.soc_edge.specs.Disk.{Only}
use Rattle.soc_edge.specs.declared.failed.Failed.{Failed}
use Rattle.soc_journal.specs.Entries.{Entry, open_gate, first_version, entries_text, place_behind}
use Rattle.soc_journal.specs.Text.{version_of, JournalText, EitherText}
use Rattle.soc_journal.specs.declared.settled.Settled.{Settled}
use Rattle.soc_journal.specs.declared.settled.Settled.TheVariants.{Clean, Kept, Dropped}

-- a journal: where its closed gate stands, the most bytes that it may have, and how many bytes the entries in doubt have,
-- where some are
pub record JournalState : Type 0 where
  pub gate : ℕ
  pub limit : ℕ
  pub doubt : Option ℕ

-- the disk's content is the journal of these entries, of the second version, and so is each image
pub record AtRest (journal : JournalState) (entries : List Entry) (bytes : List ℕ) (images : List ℕ → Type 0) : Type 0 where
  pub text : JournalText entries bytes
  pub current : version_of bytes ≢ first_version
  pub gate_stands : journal.gate ≡ place_behind entries
  pub no_doubt : journal.doubt ≡ None
  pub only : Only bytes images

-- the append of some more entries behind these has failed: the content and each image have all of them, or none
pub record InDoubt (journal : JournalState) (entries more : List Entry) (bytes : List ℕ) (images : List ℕ → Type 0) : Type 0 where
  pub text : EitherText entries more bytes
  pub current : version_of bytes ≢ first_version
  pub gate_stands : journal.gate ≡ place_behind entries
  pub in_doubt : journal.doubt ≡ Some (length (entries_text more))
  pub each : (image : List ℕ) → images image → EitherText entries more image

-- the gate at this place reads open
abbrev pub ReadsOpen : List ℕ → ℕ → Type 0
ReadsOpen bytes place = slice_get bytes place ≡ Some open_gate

-- entries that were kept stand from where the gate stood
abbrev pub IsKeptAt : ℕ → Settled → Type 0
IsKeptAt gate Clean = ⊤
IsKeptAt gate (Kept place) = place ≡ gate
IsKeptAt gate Dropped = ⊤

-- what a doubt is settled as: the gate reads open, or it doesn't
abbrev pub SettledBy : List ℕ → ℕ → Settled → Type 0
SettledBy bytes gate Clean = ⊥
SettledBy bytes gate (Kept place) = ReadsOpen bytes gate
SettledBy bytes gate Dropped = ¬ (ReadsOpen bytes gate)

-- the entries once a doubt on some more is settled: all of them were kept, or all are dropped
abbrev pub entries_after : List Entry → List Entry → Settled → List Entry
entries_after entries more Clean = entries
entries_after entries more (Kept place) = entries ++ more
entries_after entries more Dropped = entries

-- the journal once its doubt is settled, or was not
abbrev pub journal_after : JournalState → Result Settled Failed → JournalState
journal_after journal (Ok Clean) = journal
journal_after journal (Ok (Kept place)) = record journal { gate = journal.gate + unwrap_or journal.doubt 0; doubt = None }
journal_after journal (Ok Dropped) = record journal { doubt = None }
journal_after journal (Err failed) = journal
