use Rattle.std.proofs.Common.{refl, ap, ◌≡◌, IfSome, sym, subst}
use Rattle.soc_pool.specs.Passes.{seen_of}
use Rattle.soc_service.specs.Works.{last_job}
use Rattle.soc_service.proofs.Turned.{by_worker, turned_more, turned_none}
use Rattle.soc_crew.proofs.Passes.{took_end, took_more, took_nothing}
use Rattle.soc_crew.proofs.processor.work_on.Goals as goal

pub loop-init : goal.loop-init
loop-init g c = record { seat = c.requires.seat; pass = c.requires.pass.0; turned = turned_none _; took = took_nothing _ _ refl }

pub worker-end-requires-clause-reporter : goal.worker-end-requires-clause-reporter
worker-end-requires-clause-reporter g c =
    subst (λ o. IfSome o (λ basis. (g.T.SharedDesk.desk_of basis).row_of ≡ g.P.Reporter.row_of c.args.reporter.now)) (sym c.loop.invariant.turned.basis) c.requires.reporter

pub returns-in-Ended-clause-seat : goal.returns-in-Ended-clause-seat
returns-in-Ended-clause-seat g c = (
  c.worker-end.ensures.seat,
  turned_more _ _ _ 0 0 c.loop.invariant.turned (by_worker g.T.Logged g.T.SharedDesk.command_of g.T.SharedDesk.desk_of g.met.T.SharedDesk.tells _ _ _ _ _ _ _ c.worker-end.ensures.worked),
)

pub returns-in-Ended-clause-pass : goal.returns-in-Ended-clause-pass
returns-in-Ended-clause-pass g c = (
  c.worker-end.ensures.pass,
  took_end c.args.pass (seen_of c.loop.pass) (seen_of c.worker-end.result.pass) _ _ (ap last_job c.in-Ended.is) c.requires.pass.1 c.loop.invariant.took c.worker-end.ensures.taken c.worker-end.ensures.puts,
)

pub loop-preserved : goal.loop-preserved
loop-preserved g c = record {
  seat = c.worker-end.ensures.seat;
  pass = c.worker-end.ensures.pass;
  turned = turned_more _ _ _ 0 0 c.loop.invariant.turned (by_worker g.T.Logged g.T.SharedDesk.command_of g.T.SharedDesk.desk_of g.met.T.SharedDesk.tells _ _ _ _ _ _ _ c.worker-end.ensures.worked);
  took = took_more _ _ _ _ _ (ap last_job c.in-NoMemory.is) c.loop.invariant.took c.worker-end.ensures.taken c.worker-end.ensures.puts;
}
