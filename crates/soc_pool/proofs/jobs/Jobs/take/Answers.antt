use Rattle.crossbeam_queue.specs.Passes.{view}
use Rattle.soc_pool.proofs.Keeps.{takes, learns}
use Rattle.soc_pool.proofs.jobs.Jobs.take.Goals as goal

pub pop_as-job-requires-clause-rule : goal.pop_as-job-requires-clause-rule
pop_as-job-requires-clause-rule g c =
    let pass = c.args.pass in (takes pass.ring.id (view pass.ring) pass.works, learns pass.ring.id (view pass.ring))
