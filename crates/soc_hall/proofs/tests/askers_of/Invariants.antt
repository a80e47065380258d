use Rattle.std.proofs.Common.{◌≡◌, ◌+◌, ◌*◌, ◌≤◌, length, All}
use Rattle.std.specs.Prelude.{Some}
use Rattle.soc_hall.specs.Seats.{known_of, seats_in, room_of, IsSeatOf}
use Rattle.soc_hall.proofs.tests.askers_of.Given as goal

abbrev pub invariant-loop-seat : goal.invariant-loop-seat
invariant-loop-seat g l = record {
  seats : All (λ seat. IsSeatOf l.hall seat × ((known_of seat).basis ≡ Some 1000000)) (seats_in l.seats);
  room : room_of l.seats ≡ room_of l.fn.seats;
  count : length l.askers.items + length (seats_in l.seats) ≡ length (seats_in l.fn.seats);
  few : length (seats_in l.fn.seats) ≤ 64;
  each : All (λ asker. IsSeatOf l.hall asker.seat × ((known_of asker.seat).basis ≡ Some 1000000) × (asker.from + 10000 ≤ 1000000)) l.askers.items;
}

abbrev pub decreases-loop-seat : goal.decreases-loop-seat
decreases-loop-seat g l = length (seats_in l.seats)
