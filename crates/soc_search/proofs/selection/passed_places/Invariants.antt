use Rattle.std.proofs.Common.{map, take}
use denote.Ref.{Bor}
use Rattle.soc_schema.specs.Values.{values_of}
use Rattle.soc_query.specs.declared.condition.Condition.{Condition}
use Rattle.soc_search.specs.inner.Places.{has}
use Rattle.soc_search.specs.inner.Selections.{stands_out}
use Rattle.soc_search.proofs.SelectionLemmas.{Joins, chosen_places}
use Rattle.soc_search.proofs.selection.passed_places.Given as goal

abbrev pub invariant-loop-i : goal.invariant-loop-i
invariant-loop-i l =
    Joins (has l.set) (chosen_places l.field (stands_out (map (λ (d : Bor Condition). d.now) l.asked)) l.store) (take l.i (values_of l.field l.store))
