use Rattle.std.proofs.Common.{◌≡◌, ◌+◌, ◌≤◌, ◌++◌, length, map, take}
use Rattle.soc_search.specs.inner.Selections.{selected}
use Rattle.soc_search.proofs.WalkLemmas.{groups_to}
use Rattle.soc_search.proofs.walk.+add_rows.Given as goal

-- the rows of the first groups were added, as far as the goal goes, and no more than these were read
abbrev pub invariant-loop-i : goal.invariant-loop-i
invariant-loop-i g l =
    (take l.goal (map (λ row. row.now) l.rows.items) ≡ take l.goal (map (λ row. row.now) l.fn.rows.items ++ groups_to l.sorts l.store (selected l.set) l.i))
    × (l.steps ≤ l.fn.steps + length (groups_to l.sorts l.store (selected l.set) l.i))

abbrev pub decreases-add_rows : goal.decreases-add_rows
decreases-add_rows g l = length l.sorts.now
