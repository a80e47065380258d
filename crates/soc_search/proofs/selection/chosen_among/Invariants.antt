use Rattle.std.proofs.Common.{◌≡◌, filter, take}
use Rattle.soc_search.specs.inner.Selections.{selected}
use Rattle.soc_search.proofs.selection.chosen_among.Given as goal

abbrev pub invariant-loop-place : goal.invariant-loop-place
invariant-loop-place l = l.chosen.items ≡ filter (selected l.set) (take l.place-index l.places)
