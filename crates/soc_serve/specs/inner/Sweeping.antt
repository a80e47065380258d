-- The steps of the last sweep.
use Rattle.std.specs.Prelude.{◌≡◌, ◌⊎◌, ℕ, false, IsTrue, Result, Ok, Err}
use Rattle.soc_edge.specs.Disk.{DiskTold, DiskFailed, GoesOn, LeavesOnly}
use Rattle.soc_desk.specs.Basis.{Basis}
use Rattle.soc_desk.specs.Keeps.{KeepAllows, KeepsWith}
use Rattle.soc_desk.specs.State.{State, Allowed, kept_of}
use Rattle.soc_desk.specs.declared.desk.Reply.{Reply}
use Rattle.soc_desk.specs.declared.desk.Reply.TheVariants as R
use Rattle.soc_desk.specs.declared.desk.Refusal.{Refusal}
use Rattle.soc_desk.specs.declared.desk.Refusal.TheVariants as F
use Rattle.soc_serve.specs.declared.sweep.SweepFault.{SweepFault}
use Rattle.soc_serve.specs.declared.sweep.SweepFault.TheVariants as S
use Rattle.soc_serve.specs.Sweep.{FailsBoth, IsBehind, IsFault, KeepsAll, Processes, ProcessesAndKeeps, ProcessesWith}

-- what the answer to a drain, and to the keeping of reports, says of the sweep
abbrev pub drained : Reply → Result (Unit {0}) SweepFault
drained (R.Drained count) = Ok tt
drained (R.Refused F.NoMemory) = Err S.NoMemory
drained _ = Err S.Disk

abbrev pub kept : Reply → Result (Unit {0}) SweepFault
kept (R.Kept count) = Ok tt
kept (R.Refused F.NoMemory) = Err S.NoMemory
kept _ = Err S.Disk

-- the journal's changes and the doubt stay
pub record SameJournal (before after : State) : Type 0 where
  pub kept : kept_of after.log ≡ kept_of before.log
  pub doubt : after.doubt ≡ before.doubt

-- crashes were processed: where the disk tells its content, each stop meanwhile leaves what was allowed before
pub record LeavesSame (basis : Basis) (before : State) (disk : DiskTold) (after : State) (disk' : DiskTold) : Type 0 where
  pub goes_on : GoesOn disk disk'
  pub behind : IsBehind before after
  pub same : IsTrue basis.is_told → SameJournal before after
  pub each : IsTrue basis.is_told → LeavesOnly disk disk' (Allowed before)

-- reports were kept too: each stop meanwhile leaves what was allowed before, or some of the reports in order
pub record LeavesMore (basis : Basis) (before : State) (disk : DiskTold) (after : State) (disk' : DiskTold) : Type 0 where
  pub goes_on : GoesOn disk disk'
  pub behind : IsBehind before after
  pub each : IsTrue basis.is_told → LeavesOnly disk disk' (KeepAllows before after)

-- a step that failed
pub record FailsStep (basis : Basis) (before : State) (disk : DiskTold) (fault : SweepFault) (after : State) (disk' : DiskTold) : Type 0 where
  pub behind : IsBehind before after
  pub cause : fault ≡ S.Disk → DiskFailed disk disk' ⊎ (basis.is_told ≡ false)

abbrev pub EndsDrain : Basis → State → DiskTold → Result (Unit {0}) SweepFault → State → DiskTold → Type 0
EndsDrain basis before disk (Ok done) after disk' = (count : ℕ) × Processes basis before count after
EndsDrain basis before disk (Err fault) after disk' =
    FailsStep basis before disk fault after disk' × (why : Refusal) × IsFault why fault × ProcessesWith basis before (R.Refused why) after

abbrev pub EndsKeep : Basis → State → DiskTold → Result (Unit {0}) SweepFault → State → DiskTold → Type 0
EndsKeep basis before disk (Ok done) after disk' = (count : ℕ) × KeepsAll basis before count after
EndsKeep basis before disk (Err fault) after disk' =
    FailsStep basis before disk fault after disk' × (why : Refusal) × IsFault why fault × KeepsWith basis before (R.Refused why) after

-- what is due is processed, and then reports are kept
abbrev pub EndsBoth : Basis → State → DiskTold → Result (Unit {0}) SweepFault → State → DiskTold → Type 0
EndsBoth basis before disk (Ok done) after disk' =
    (processed count : ℕ) × ProcessesAndKeeps basis before (R.Drained processed) (R.Kept count) after
EndsBoth basis before disk (Err fault) after disk' =
    FailsStep basis before disk fault after disk'
    × (why : Refusal) × IsFault why fault × FailsBoth (λ processed kept. ProcessesAndKeeps basis before processed kept after) why
