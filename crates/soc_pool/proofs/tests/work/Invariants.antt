use Rattle.soc_pool.specs.Passes.{IsPassOf}
use Rattle.soc_pool.proofs.tests.work.Given as goal

abbrev pub invariant-loop-i : goal.invariant-loop-i
invariant-loop-i g l = IsPassOf l.jobs l.pass
