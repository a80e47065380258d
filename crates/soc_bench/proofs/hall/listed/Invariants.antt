use Rattle.std.proofs.Common.{length, All}
use Rattle.soc_hall.specs.Seats.{seats_in, IsSeatOf}
use Rattle.soc_bench.proofs.hall.listed.Given as goal

abbrev pub invariant-loop-seat : goal.invariant-loop-seat
invariant-loop-seat l = All (λ seat. IsSeatOf l.hall seat) (seats_in l.seats) × All (λ seat. IsSeatOf l.hall seat) l.list.items

abbrev pub decreases-loop-seat : goal.decreases-loop-seat
decreases-loop-seat l = length (seats_in l.seats)
