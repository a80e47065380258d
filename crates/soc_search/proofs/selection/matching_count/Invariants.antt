use Rattle.std.proofs.Common.{◌≡◌, ◌≤◌, length, filter, take}
use Rattle.soc_search.specs.inner.Places.{has}
use Rattle.soc_search.proofs.selection.matching_count.Given as goal

abbrev pub invariant-loop-i : goal.invariant-loop-i
invariant-loop-i l = (l.count ≡ length (filter (λ s. has l.set s.0) (take l.i l.store))) × (l.count ≤ l.i)
