use Rattle.std.proofs.Common.{◌-◌, ◌≤◌}
use Rattle.soc_hall.specs.Seats.{IsSeatOf}
use Rattle.soc_bench.proofs.hall.take_turns.Given as goal

abbrev pub invariant-loop-taken : goal.invariant-loop-taken
invariant-loop-taken g l = IsSeatOf l.hall l.seat × (l.taken ≤ l.turns)

abbrev pub decreases-loop-taken : goal.decreases-loop-taken
decreases-loop-taken g l = l.turns - l.taken
