-- The last sweep over a desk whose log a journal keeps: the reports that are made are kept for later runs, what is due is
-- processed and its reports are kept too, and what has become due meanwhile is processed. This project's profile.
use Rattle.std.specs.Prelude.{◌≡◌, ◌⊎◌, ℕ, false, IsTrue, List, [], ◌++◌, Result, Ok, Err}
use Rattle.soc_edge.specs.Disk.{DiskTold}
use Rattle.soc_edge.specs.Faults.{Rose}
use Rattle.soc_ledger.specs.Due.{due_ids}
use Rattle.soc_desk.specs.declared.desk.Refusal.{Refusal}
use Rattle.soc_desk.specs.declared.desk.Refusal.TheVariants as refusal
use Rattle.soc_desk.specs.declared.desk.Reply.{Reply}
use Rattle.soc_desk.specs.declared.desk.Reply.TheVariants as R
use Rattle.soc_desk.specs.Basis.{Basis}
use Rattle.soc_desk.specs.Desk.{DrainsAll}
use Rattle.soc_desk.specs.Grows.{Drains}
use Rattle.soc_desk.specs.Keeps.{KeepsWith}
use Rattle.soc_desk.specs.Log.{Change, events}
use Rattle.soc_desk.specs.State.{State, IsLegalState}
use Rattle.soc_serve.specs.declared.sweep.SweepFault.{SweepFault}
use Rattle.soc_serve.specs.declared.sweep.SweepFault.TheVariants as F

-- What was due was processed, with this answer: always by the log's events, and where the disk tells its content by its
-- changes.
pub record ProcessesWith (basis : Basis) (before : State) (reply : Reply) (after : State) : Type 0 where
  pub piece : List Change
  pub behind : after.log ≡ before.log ++ piece
  pub drains : Drains (events basis before.log) reply (events basis piece)
  pub legal : IsLegalState basis after
  pub step : IsTrue basis.is_told → DrainsAll before (due_ids (events basis before.log)) reply after

-- all of it was processed, and it was so many
abbrev pub Processes : Basis → State → ℕ → State → Type 0
Processes basis before count after = ProcessesWith basis before (R.Drained count) after

-- so many reports were kept
abbrev pub KeepsAll : Basis → State → ℕ → State → Type 0
KeepsAll basis before count after = KeepsWith basis before (R.Kept count) after

-- what was due was processed with the first answer, and then reports were kept with the second
pub record ProcessesAndKeeps (basis : Basis) (before : State) (processed kept : Reply) (after : State) : Type 0 where
  pub first : State
  pub processes : ProcessesWith basis before processed first
  pub keeps_made : KeepsWith basis first kept after

-- reports were kept before that
pub record KeepsTwice (basis : Basis) (before : State) (processed kept : Reply) (after : State) : Type 0 where
  pub early : ℕ
  pub opened : State
  pub keeps_early : KeepsAll basis before early opened
  pub goes_on : ProcessesAndKeeps basis opened processed kept after

-- the sweep is done: nothing is due
pub record Sweeps (basis : Basis) (before after : State) : Type 0 where
  pub processed : ℕ
  pub count : ℕ
  pub kept : State
  pub keeps : KeepsTwice basis before (R.Drained processed) (R.Kept count) kept
  pub late : ℕ
  pub processes_late : Processes basis kept late after
  pub nothing_due : due_ids (events basis after.log) ≡ []

-- a desk has only gone on
abbrev pub IsBehind : State → State → Type 0
IsBehind before later = (piece : List Change) × (later.log ≡ before.log ++ piece)

-- what a refusal of a step is told as
abbrev pub IsFault : Refusal → SweepFault → Type 0
IsFault refusal.NoMemory fault = fault ≡ F.NoMemory
IsFault refusal.StoreFault fault = fault ≡ F.Disk
IsFault (refusal.Altered id) fault = fault ≡ F.Disk
IsFault _ fault = ⊥

-- behind the first reports: the others could not be kept, or not all that was due was processed, and all reports that are
-- made are kept
abbrev pub FailsBoth : (Reply → Reply → Type 0) → Refusal → Type 0
FailsBoth Goes why = ((reply : Reply) × Goes reply (R.Refused why)) ⊎ ((count : ℕ) × Goes (R.Refused why) (R.Kept count))

-- the first or the second reports could not be kept, or not all that was due was processed, first or meanwhile
abbrev pub FailsBy : Basis → State → Refusal → State → Type 0
FailsBy basis before why after =
    KeepsWith basis before (R.Refused why) after
    ⊎ (FailsBoth (λ processed kept. KeepsTwice basis before processed kept after) why
    ⊎ ((processed : ℕ) × (count : ℕ) × (kept : State) × KeepsTwice basis before (R.Drained processed) (R.Kept count) kept
    × ProcessesWith basis kept (R.Refused why) after))

-- memory was wanting before the first step, or a step failed, after which no other is taken but the keeping of reports
abbrev pub FailsAt : Basis → State → SweepFault → State → Type 0
FailsAt basis before fault after =
    ((fault ≡ F.NoMemory) × (after ≡ before)) ⊎ ((why : Refusal) × IsFault why fault × FailsBy basis before why after)

-- The sweep failed. The disk is blamed only where its count of faults rose in the sweep, or where it tells nothing and gave back
-- other bytes than it was given. A crash that can't be read costs no other crash its report.
pub record FailsSweep (basis : Basis) (before : State) (faults : ℕ) (fault : SweepFault) (after : State) (faults' : ℕ) : Type 0 where
  pub behind : IsBehind before after
  pub cause : fault ≡ F.Disk → Rose faults faults' ⊎ (basis.is_told ≡ false)
  pub stage : FailsAt basis before fault after

abbrev pub EndsSweep : Basis → State → DiskTold → Result (Unit {0}) SweepFault → State → DiskTold → Type 0
EndsSweep basis before disk (Ok done) after disk' = Sweeps basis before after
EndsSweep basis before disk (Err fault) after disk' = FailsSweep basis before disk.faults fault after disk'.faults
