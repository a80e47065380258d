use Rattle.std.proofs.Common.{◌≡◌, map, take, filter}
use denote.Ref.{Bor}
use Rattle.soc_store.specs.Stored.{value_at}
use Rattle.soc_query.specs.declared.condition.Condition.{Condition}
use Rattle.soc_search.specs.inner.Selections.{are_met}
use Rattle.soc_search.proofs.selection.met_places.Given as goal

abbrev pub invariant-loop-place : goal.invariant-loop-place
invariant-loop-place l =
    l.left.items ≡ filter (λ p. are_met (map (λ (d : Bor Condition). d.now) l.asked) (value_at p l.field l.store)) (take l.place-index l.places)
