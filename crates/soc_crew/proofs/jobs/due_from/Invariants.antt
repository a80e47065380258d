use Rattle.std.proofs.Common.{◌≡◌, ◌≤◌, drop, take}
use Rattle.soc_ledger.specs.Due.{due_ids}
use Rattle.soc_service.specs.Changes.{events_in}
use Rattle.soc_crew.proofs.jobs.due_from.Given as goal

abbrev pub invariant-loop-place : goal.invariant-loop-place
invariant-loop-place g l = record {
  behind : l.from ≤ l.place;
  are : l.ids.items ≡ drop l.from (take l.place (due_ids (events_in (g.T.Logged.log_of l.desk))));
}
