use Rattle.std.proofs.Common.{◌≡◌, ℕ, [], get_or, length, ◌-◌}
use Rattle.soc_search.proofs.places.grow_pages.Given as goal

abbrev pub invariant-loop-alloc : goal.invariant-loop-alloc
invariant-loop-alloc l = (i : ℕ) → get_or l.pages.items i [] ≡ get_or l.initial.pages.items i []

abbrev pub decreases-loop-alloc : goal.decreases-loop-alloc
decreases-loop-alloc l = l.count - length l.pages.items
