use Rattle.std.proofs.Common.{◌≡◌, ◌+◌, ◌≤◌, ◌++◌, length, All}
use Rattle.soc_hall.specs.Seats.{seats_in, room_of, IsSeatOf}
use Rattle.soc_hall.proofs.tests.seats_of_askers.Given as goal

abbrev pub invariant-loop-asker : goal.invariant-loop-asker
invariant-loop-asker g l = record {
  can_next : (goal.iterator-loop-asker g).can_next l.asker-iterator;
  is_finite : (goal.iterator-loop-asker g).is_finite l.asker-iterator;
  all : l.yielded ++ l.asker-iterator.rest.items ≡ l.fn.askers.items;
  count : length (seats_in l.seats) ≡ length l.yielded;
  room : length l.fn.askers.items ≤ room_of l.seats;
  seats : All (λ seat. IsSeatOf l.hall seat) (seats_in l.seats);
  each : All (λ asker. IsSeatOf l.hall asker.seat) l.fn.askers.items;
}
