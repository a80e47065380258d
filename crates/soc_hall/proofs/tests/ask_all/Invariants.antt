use Rattle.std.proofs.Common.{◌≡◌}
use Rattle.std.specs.Prelude.{Some}
use Rattle.soc_hall.specs.Seats.{known_of, IsSeatOf}
use Rattle.soc_hall.proofs.tests.ask_all.Given as goal

abbrev pub invariant-loop-i : goal.invariant-loop-i
invariant-loop-i g l = IsSeatOf l.hall l.seat × ((known_of l.seat).basis ≡ Some 1000000)
