use Rattle.std.specs.List.{AllByRecursion}
use Rattle.soc_desk.specs.Kinds.{NeedsNothing}
use Rattle.soc_desk_tables.proofs.asks.commands.Given as goal

abbrev pub invariant-loop-act : goal.invariant-loop-act
invariant-loop-act l = record {
  can_next : goal.iterator-loop-act.can_next l.act-iterator;
  is_finite : goal.iterator-loop-act.is_finite l.act-iterator;
  needs : AllByRecursion NeedsNothing l.commands.items;
}
