-- `check`: the journal is opened, and what its log has is counted. This project's profile.
use Rattle.std.specs.Prelude.{◌≡◌, ◌⊎◌, ℕ, IfSome, List, ◌++◌, length, codes, decimal, None}
use Rattle.soc_schema.specs.Reports.{bare_row}
use Rattle.soc_edge.specs.Told.{Writes, WritesFront}
use Rattle.soc_ledger.specs.declared.event.Event.{Event}
use Rattle.soc_ledger.specs.Due.{due_ids}
use Rattle.soc_ledger.specs.Events.{ask_count, held_ids, withdrawal_count}
use Rattle.soc_vault.specs.Openings.{StandsSince}
use Rattle.soc_desk.specs.declared.desk.Limits.{Limits}
use Rattle.soc_desk.specs.Log.{events}
use Rattle.soc_replay.specs.declared.ending.RunEnd.{RunEnd}
use Rattle.soc_replay.specs.declared.ending.RunEnd.TheVariants as R
use Rattle.soc_replay.specs.Opening.{OnlyOpens, OpensJournal, OpensNot}
use Rattle.soc_edge.specs.World.{Surroundings}
use Rattle.soc_replay.specs.Settings.{most_crashes, most_journal_bytes}

-- a check goes by no settings
abbrev pub check_limits : Limits
check_limits = record { journal_bytes = most_journal_bytes; crashes = most_crashes }

-- a name and a number on a line
abbrev pub count_line : List ℕ → ℕ → List ℕ
count_line name count = name ++ (decimal count ++ codes "\n")

-- the crashes that are held, the asks, the crashes that are due, and those that were withdrawn
abbrev pub counts_text : List Event → List ℕ
counts_text log =
    count_line (codes "crashes ") (length (held_ids log))
    ++ (count_line (codes "asks ") (ask_count log)
    ++ (count_line (codes "due ") (length (due_ids log)) ++ count_line (codes "withdrawn ") (withdrawal_count log)))

-- The journal's entries are opened to a log, whose counts are told. Once the first sync is done, or the empty journal is
-- made, each stop leaves the journal of these entries.
pub record CountsJournal (before after : Surroundings) (Tells : List ℕ → Type 0) : Type 0 where
  pub opening : OpensJournal bare_row None check_limits before.disk.content
  pub draws : after.outlook ≡ before.outlook
  pub disk : OnlyOpens before.disk after.disk
  pub stands : IfSome before.disk.content (λ bytes. StandsSince before.disk after.disk bytes opening.entries)
  pub text : Tells (counts_text (events opening.basis opening.log))

-- a check, by its end
abbrev pub Checks : Surroundings → Surroundings → RunEnd → Type 0
Checks before after R.Written = CountsJournal before after (Writes before.streams after.streams)
Checks before after R.LineFault = CountsJournal before after (WritesFront before.streams after.streams) ⊎ OpensNot before after R.LineFault
Checks before after R.NoMemory = OpensNot before after R.NoMemory
Checks before after R.OpenFault = OpensNot before after R.OpenFault
Checks before after R.JournalRefused = OpensNot before after R.JournalRefused
Checks before after _ = ⊥
