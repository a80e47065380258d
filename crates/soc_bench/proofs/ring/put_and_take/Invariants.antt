use Rattle.std.proofs.Common.{◌≤◌}
use Rattle.soc_pool.specs.Passes.{IsPassOf}
use Rattle.soc_bench.proofs.ring.put_and_take.Given as goal

abbrev pub invariant-loop-number : goal.invariant-loop-number
invariant-loop-number g l = IsPassOf l.jobs l.pass × (l.taken ≤ l._number)
