-- How a journal is opened, and why it isn't. This project's profile.
use Rattle.std.specs.Prelude.{◌≡◌, ◌≢◌, ℕ, IfSome, is_some, List, [], Option}
use Rattle.soc_raw.specs.Record.{Crash}
use Rattle.soc_schema.specs.declared.value.Cell.{Cell}
use Rattle.soc_edge.specs.Disk.{DiskTold, GoesOn, LeavesOnly, Looks}
use Rattle.soc_edge.specs.Told.{Writes, WritesFront}
use Rattle.soc_journal.specs.Entries.{Entry}
use Rattle.soc_journal.specs.Text.{HasHeader}
use Rattle.soc_vault.specs.Openings.{AreEntriesOf, OpeningLeaves}
use Rattle.soc_desk.specs.declared.desk.Limits.{Limits}
use Rattle.soc_desk.specs.Basis.{Basis}
use Rattle.soc_desk.specs.Log.{Change}
use Rattle.soc_desk.specs.Opens.{OpensWith}
use Rattle.soc_book.specs.Openings.{IsBasisOf, StopsAtEntry}
use Rattle.soc_replay.specs.declared.ending.RunEnd.{RunEnd}
use Rattle.soc_replay.specs.declared.ending.RunEnd.TheVariants as R
use Rattle.soc_replay.specs.declared.refusal.FileRefusal.{FileRefusal}
use Rattle.soc_replay.specs.declared.refusal.FileRefusal.TheVariants as F
use Rattle.soc_edge.specs.World.{Surroundings}
use Rattle.soc_replay.specs.Refusals.{refusal_line}

-- The entries of a disk with this content are opened to a log. The rows of its reports, and their digest, are these.
pub record OpensJournal (row_of : Crash → List Cell) (digest : Option (List ℕ)) (limits : Limits)
    (content : Option (List ℕ)) : Type 0 where
  pub basis : Basis
  pub basis_is : IsBasisOf row_of digest limits content basis
  pub told : basis.is_told ≡ is_some content
  pub entries : List Entry
  pub log : List Change
  pub found : IfSome content (λ bytes. AreEntriesOf bytes entries)
  pub opens : OpensWith basis entries log

-- the journal was opened, or an opening came to some point of its way
pub record OnlyOpens (before after : DiskTold) : Type 0 where
  pub goes_on : GoesOn before after
  pub leaves : IfSome before.content (λ bytes. LeavesOnly before after (OpeningLeaves before.images bytes))

-- the journal was opened at most, and nothing was drawn or written
pub record StaysSilent (before after : Surroundings) : Type 0 where
  pub draws : after.outlook ≡ before.outlook
  pub disk : OnlyOpens before.disk after.disk
  pub streams : after.streams ≡ before.streams

-- the disk holds no journal of a legal log
abbrev pub RefusesJournal : DiskTold → FileRefusal → Type 0
RefusesJournal disk F.NotJournal = IfSome disk.content (λ bytes. (bytes ≢ []) × ¬ (HasHeader bytes))
RefusesJournal disk (F.BadEntry place) = IfSome disk.content (λ bytes. StopsAtEntry bytes place)
RefusesJournal disk _ = ⊥

-- the journal is refused and as it was, and its line was written, whole or cut short
pub record JournalRefused (before after : Surroundings) (Tells : List ℕ → Type 0) : Type 0 where
  pub refusal : FileRefusal
  pub refused : RefusesJournal before.disk refusal
  pub draws : after.outlook ≡ before.outlook
  pub disk : OnlyOpens before.disk after.disk
  pub untouched : IfSome before.disk.content (λ bytes. bytes ≢ [] → Looks before.disk after.disk)
  pub line : Tells (refusal_line refusal)

-- the journal wasn't opened, by the run's end
abbrev pub OpensNot : Surroundings → Surroundings → RunEnd → Type 0
OpensNot before after R.JournalRefused = JournalRefused before after (Writes before.streams after.streams)
OpensNot before after R.LineFault = JournalRefused before after (WritesFront before.streams after.streams)
OpensNot before after R.OpenFault = StaysSilent before after
OpensNot before after R.NoMemory = StaysSilent before after
OpensNot before after _ = ⊥
