use Rattle.soc_pool.specs.Passes.{IsPassOf, seen_of}
use Rattle.soc_crew.specs.Jobs.{PutsEnds}
use Rattle.soc_crew.proofs.jobs.put_ends.Given as goal

abbrev pub invariant-loop : goal.invariant-loop
invariant-loop g l = IsPassOf l.jobs l.pass × PutsEnds l.ends l.left (seen_of l.initial.pass) (seen_of l.pass)
