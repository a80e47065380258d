use Rattle.std.specs.List.{AllByRecursion}
use Rattle.soc_desk.specs.Kinds.{NeedsNothing}
use Rattle.soc_bench.proofs.together.submissions.Given as goal

abbrev pub invariant-loop-number : goal.invariant-loop-number
invariant-loop-number l = AllByRecursion NeedsNothing l.commands.items
