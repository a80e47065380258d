use Rattle.crossbeam_queue.specs.Passes.{view}
use Rattle.soc_pool.proofs.Keeps.{puts, learns}
use Rattle.soc_pool.proofs.jobs.Jobs.put.Goals as goal

pub push_as-requires-clause-rule : goal.push_as-requires-clause-rule
push_as-requires-clause-rule g c =
    let pass = c.args.pass in (puts _ pass.ring.id (view pass.ring) c.args.job pass.works, learns pass.ring.id (view pass.ring))
