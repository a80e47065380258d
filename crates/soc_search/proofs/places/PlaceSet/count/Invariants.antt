use Rattle.std.proofs.Common.{◌≡◌, ◌≤◌, take, count_by}
use Rattle.soc_search.specs.inner.Places.{has}
use Rattle.soc_search.proofs.places.PlaceSet.count.Given as goal

abbrev pub invariant-loop-place : goal.invariant-loop-place
invariant-loop-place l = (l.count ≡ count_by (has l.self) (take l.place-index l.places)) × (l.count ≤ l.place-index)
