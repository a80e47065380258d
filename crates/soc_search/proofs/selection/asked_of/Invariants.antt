use Rattle.std.proofs.Common.{map, take}
use denote.Ref.{Bor}
use Rattle.soc_query.specs.declared.condition.Condition.{Condition}
use Rattle.soc_search.specs.inner.Selections.{AreOnce, asked_of}
use Rattle.soc_search.proofs.selection.asked_of.Given as goal

abbrev pub invariant-loop-condition : goal.invariant-loop-condition
invariant-loop-condition l = AreOnce (map (λ (d : Bor Condition). d.now) l.asked.items) (asked_of l.field (take l.condition-index l.conditions))
