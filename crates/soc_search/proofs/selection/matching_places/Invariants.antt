use Rattle.std.proofs.Common.{◌≡◌, map, filter, take}
use Rattle.soc_search.specs.inner.Selections.{selected}
use Rattle.soc_search.proofs.selection.matching_places.Given as goal

abbrev pub invariant-loop-i : goal.invariant-loop-i
invariant-loop-i l = l.places.items ≡ map (λ s. s.0) (filter (λ s. selected l.set s.0) (take l.i l.store))
