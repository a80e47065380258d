use Rattle.crossbeam_queue.specs.Passes.{view}
use Rattle.soc_pool.proofs.Keeps.{closes}
use Rattle.soc_pool.proofs.jobs.Jobs.close.Goals as goal

pub learn_as-requires-clause-rule : goal.learn_as-requires-clause-rule
learn_as-requires-clause-rule c = closes c.gather-roll.result.id (view c.gather-roll.result) c.gather-roll.ensures.roll.1
