use Rattle.soc_pool.specs.Passes.{IsPassOf}
use Rattle.soc_pool.proofs.tests.run.Given as goal

abbrev pub invariant-loop : goal.invariant-loop
invariant-loop g l = IsPassOf l.jobs l.last
