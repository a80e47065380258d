use Rattle.std.proofs.Common.{map, take}
use denote.Ref.{Bor}
use Rattle.soc_query.specs.declared.condition.Condition.{Condition}
use Rattle.soc_search.specs.inner.Places.{has}
use Rattle.soc_search.specs.inner.Selections.{hit_places}
use Rattle.soc_search.proofs.SelectionLemmas.{Joins}
use Rattle.soc_search.proofs.selection.exact_places.Given as goal

abbrev pub invariant-loop-condition : goal.invariant-loop-condition
invariant-loop-condition l =
    Joins (has l.set) (λ (c : Bor Condition). hit_places (map (λ (d : Bor Condition). d.now) l.asked) l.field l.store c.now) (take l.condition-index l.asked)
