-- What the calls of a hall say of it and of its seats.
use Rattle.std.specs.Prelude.{Some, ◌≡◌, ℕ, List, [], vec_capacity}
use Rattle.soc_hall.specs.declared.view.Known.{Known}
use Rattle.soc_hall.specs.declared.view.View.{View}
use Rattle.soc_hall.specs.declared.seats.HallSeat.{HallSeat}
use Rattle.soc_hall.specs.declared.seats.HallSeats.{HallSeats}
use Rattle.soc_hall.specs.declared.hall.Room.{Room}
use Rattle.soc_hall.specs.Log.{whole}

module _ {B X C P : Type 0} where
  -- what a view says that its seat knows
  abbrev pub known : View B X C P → Known B X C P
  known v = record { number = v.number; basis = v.basis; opening = v.opening; seen = v.seen; turns = v.turns }

  -- the whole log that a seat has seen
  abbrev pub seen_of : Known B X C P → List X
  seen_of v = whole v.opening v.seen

  -- a seat that has seen the log with which the hall opened, and has had no turn
  abbrev pub IsNew : B → List X → Known B X C P → Type 0
  IsNew basis opening v = (v.basis ≡ Some basis) × (v.opening ≡ opening) × (v.seen ≡ []) × (v.turns ≡ [])

  -- the seat knows enough to ask the command
  abbrev pub MayAsk : (B → List X → C → Type 0) → Known B X C P → C → Type 0
  MayAsk may v command = (basis : B) → v.basis ≡ Some basis → may basis (seen_of v) command

module _ {S B X C P : Type 0} where
  -- what a seat knows
  abbrev pub known_of : HallSeat S B X C P → Known B X C P
  known_of seat = known seat.chair.me.0

  -- the seats in a list of them, and for how many it has room
  abbrev pub seats_in : HallSeats S B X C P → List (HallSeat S B X C P)
  seats_in seats = seats.list.items

  abbrev pub room_of : HallSeats S B X C P → ℕ
  room_of seats = vec_capacity seats.list

module _ {S V T Q B X C P : Type 0} where
  -- it is a seat of this hall
  abbrev pub IsSeatOf : Room S V T Q → HallSeat S B X C P → Type 0
  IsSeatOf hall seat = seat.chair.table_id ≡ hall.table.shared.table_id

module _ {S V Q T : Type 0} where
  -- how many seats a hall has
  abbrev pub seats_of : Room S V T Q → ℕ
  seats_of hall = hall.table.shared.key.seats
