use Rattle.std.proofs.Common.{sym, subst}
use Rattle.crossbeam_queue.specs.Fifo.{PopsFrom}
use Rattle.crossbeam_queue.specs.Passes.{view}
use Rattle.soc_pool.specs.inner.Rule.{IsRing, takes_from_full}
use Rattle.soc_pool.proofs.Keeps.{puts, puts_after, takes_full}
use Rattle.soc_pool.proofs.jobs.Jobs.put_over.Goals as goal

pub force_push_as-out-requires-clause-push : goal.force_push_as-out-requires-clause-push
force_push_as-out-requires-clause-push g c =
    let pass = c.args.pass in (puts _ pass.ring.id (view pass.ring) c.args.job pass.works, puts_after _ pass.ring.id (view pass.ring) c.args.job pass.works)

pub force_push_as-out-requires-clause-pop : goal.force_push_as-out-requires-clause-pop
force_push_as-out-requires-clause-pop g c =
    let pass = c.args.pass in
    subst (λ n. PopsFrom IsRing n pass.ring.id (view pass.ring) (takes_from_full (view pass.ring))) (sym c.args.self.now.places) (takes_full pass.ring.id (view pass.ring) pass.works)
