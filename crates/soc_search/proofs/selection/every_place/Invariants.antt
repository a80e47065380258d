use Rattle.std.proofs.Common.{true, take}
use Rattle.soc_search.specs.inner.Places.{has}
use Rattle.soc_search.specs.inner.Selections.{Selects}
use Rattle.soc_search.proofs.selection.every_place.Given as goal

abbrev pub invariant-loop-i : goal.invariant-loop-i
invariant-loop-i l = Selects (has l.set) (λ _. true) (take l.i l.store)
