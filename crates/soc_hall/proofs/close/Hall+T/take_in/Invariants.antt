use Rattle.std.proofs.Common.{◌≡◌, ◌++◌, map}
use Rattle.soc_hall.specs.Seats.{known_of}
use Rattle.soc_hall.specs.inner.Chairs.{IsChair}
use Rattle.soc_hall.specs.inner.Steps.{having_taken}
use Rattle.soc_hall.proofs.close.Hall+T.take_in.Given as goal

abbrev pub invariant-loop-seat : goal.invariant-loop-seat
invariant-loop-seat g l = record {
  can_next : (goal.iterator-loop-seat g).can_next l.seat-iterator;
  is_finite : (goal.iterator-loop-seat g).is_finite l.seat-iterator;
  all : l.yielded ++ l.seat-iterator.rest.items ≡ l.fn.others.items;
  chair : IsChair l.self.table.shared.table_id l.chair;
  took : l.chair.me.0 ≡ having_taken (map (λ seat. known_of seat) l.yielded) l.fn.chair.me.0;
}
