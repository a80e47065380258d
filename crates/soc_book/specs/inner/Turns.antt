-- What turns do: the first due crash gets its row, time after time.
use Rattle.std.specs.Prelude.{◌≡◌, ℕ, ◌<◌, ◌≤◌, false, List, [], ◌∷◌, length, take, drop, Option, None, Some, Result, Ok, Err}
use Rattle.soc_edge.specs.Disk.{DiskTold, DiskFailed}
use Rattle.soc_ledger.specs.Due.{due_ids}
use Rattle.soc_desk.specs.declared.desk.Refusal.{Refusal}
use Rattle.soc_desk.specs.declared.desk.Refusal.TheVariants as F
use Rattle.soc_desk.specs.Basis.{Basis}
use Rattle.soc_desk.specs.Desk.{with_done}
use Rattle.soc_desk.specs.Grows.{IsDueAt}
use Rattle.soc_desk.specs.Log.{events}
use Rattle.soc_desk.specs.State.{State}

-- the due crashes of a state
abbrev pub due_of : Basis → State → List (List ℕ)
due_of basis state = due_ids (events basis state.log)

-- the first due crash was processed, or none was due, or why it wasn't
abbrev pub TurnsTo : Basis → State → Result (Option (List ℕ)) Refusal → State → DiskTold → DiskTold → Type 0
TurnsTo basis before (Ok None) after disk disk' = (due_of basis before ≡ []) × (after ≡ before)
TurnsTo basis before (Ok (Some id)) after disk disk' = IsDueAt (events basis before.log) 0 id × (after ≡ with_done before (id ∷ []))
TurnsTo basis before (Err F.StoreFault) after disk disk' = (0 < length (due_of basis before)) × DiskFailed disk disk' × (after ≡ before)
TurnsTo basis before (Err (F.Altered id)) after disk disk' = IsDueAt (events basis before.log) 0 id × (basis.is_told ≡ false) × (after ≡ before)
TurnsTo basis before (Err F.NoMemory) after disk disk' = (0 < length (due_of basis before)) × (after ≡ before)
TurnsTo basis before (Err _) after disk disk' = ⊥

-- so many turns were made
pub record IsTurned (basis : Basis) (before : State) (turns : ℕ) (after : State) : Type 0 where
  pub few : turns ≤ length (due_of basis before)
  pub after_is : after ≡ with_done before (take turns (due_of basis before))
  pub left : due_of basis after ≡ drop turns (due_of basis before)
