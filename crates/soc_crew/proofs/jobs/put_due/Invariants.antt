use Rattle.soc_ledger.specs.Due.{due_ids}
use Rattle.soc_pool.specs.Passes.{IsPassOf, seen_of}
use Rattle.soc_service.specs.Changes.{events_in}
use Rattle.soc_crew.proofs.Passes.{HasPut}
use Rattle.soc_crew.proofs.jobs.put_due.Given as goal

abbrev pub invariant-loop-place : goal.invariant-loop-place
invariant-loop-place g l = record {
  pass : IsPassOf l.jobs l.pass;
  has : HasPut (due_ids (events_in (g.T.Logged.log_of l.desk))) l.place (seen_of l.initial.pass) (seen_of l.pass);
}
