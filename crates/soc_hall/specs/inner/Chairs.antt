-- A seat as it steps on the hall's table, in the middle of a call.
use Rattle.std.specs.Prelude.{◌≡◌, ℕ, ◌%◌, ◌^◌, List, []}
use Rattle.atomic_table.specs.Seated.{TableId}
use Rattle.atomic_table.specs.declared.shared.Seat.{Seat}
use Rattle.soc_hall.specs.declared.view.Place.{Place}
use Rattle.soc_hall.specs.declared.view.Stage.TheVariants.{Idle, Waits}
use Rattle.soc_hall.specs.declared.view.View.{View}
use Rattle.soc_hall.specs.declared.hall.Room.{Room}
use Rattle.soc_hall.specs.Seats.{known, IsNew}

module _ {T B X C P : Type 0} where
  -- it belongs to this table, and has no turn
  abbrev pub IsChair : TableId → Seat (Place T C P) (View B X C P) → Type 0
  IsChair z s = (s.table_id ≡ z) × (s.me.1 ≡ []) × (s.me.0.stage ≡ Idle)

  abbrev pub IsSame : Seat (Place T C P) (View B X C P) → Seat (Place T C P) (View B X C P) → Type 0
  IsSame s t = (t.table_id ≡ s.table_id) × (t.id ≡ s.id)

  -- it waits with this ticket
  abbrev pub WaitsWith : ℕ → Seat (Place T C P) (View B X C P) → Type 0
  WaitsWith n s = (t : ℕ) × (n ≡ t % 2 ^ 64) × (s.me.0.stage ≡ Waits t) × (s.me.1 ≡ [])

module _ {T B X C P S V Q : Type 0} (basis_of : T → B) (log_of : T → List X) where
  -- it belongs to this hall, and has had no turn
  abbrev pub IsNewChair : Room S V T Q → Seat (Place T C P) (View B X C P) → Type 0
  IsNewChair hall s = IsChair hall.table.shared.table_id s × IsNew (basis_of hall.table.shared.key.state.value) (log_of hall.table.shared.key.state.value) (known s.me.0) × (s.me.0.gone ≡ [])
