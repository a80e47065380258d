use Rattle.soc_pool.proofs.Keeps.{gathers}
use Rattle.soc_pool.proofs.jobs.Jobs.gather.Goals as goal

pub absorb-requires-clause-rule : goal.absorb-requires-clause-rule
absorb-requires-clause-rule c = gathers c.loop-pass.roll.id _ c.in-Some.pass.ring.id _ c.loop-pass.invariant.roll.1 c.in-Some.pass.works
