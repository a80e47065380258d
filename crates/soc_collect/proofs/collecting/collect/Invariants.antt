use Rattle.std.proofs.Common.{◌≡◌, ◌<◌, ◌^◌, List}
use Rattle.soc_collect.specs.Asked.{AsksAll, Step}
use Rattle.soc_collect.proofs.collecting.collect.Given as goal

abbrev pub invariant-loop : goal.invariant-loop
invariant-loop g l = record {
  ahead : (goal.iterator-loop g).can_next l.iterator' × (goal.iterator-loop g).is_finite l.iterator';
  asks : (steps : List Step) × AsksAll g.K.Desk.Asks l.fn.desk steps l.desk;
  connections : l.served.connections ≡ l.ticket.handed.amount;
  kept : l.served.kept ≡ g.K.KeepingDesk.added l.desk;
  small : g.K.KeepingDesk.added l.desk < 2 ^ 60;
  handed_parts : l.ticket.handed.parts ≡ l.fn.ticket.handed.parts;
  refused_parts : l.ticket.refused.parts ≡ l.fn.ticket.refused.parts;
}
