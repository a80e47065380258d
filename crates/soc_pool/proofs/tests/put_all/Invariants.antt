use Rattle.soc_pool.specs.Passes.{IsPassOf}
use Rattle.soc_pool.proofs.tests.put_all.Given as goal

abbrev pub invariant-loop-number : goal.invariant-loop-number
invariant-loop-number g l = IsPassOf l.jobs l.pass
