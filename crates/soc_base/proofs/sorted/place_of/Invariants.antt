use Rattle.std.proofs.Common.{◌≤◌, length, map, ◌-◌}
use Rattle.soc_base.specs.inner.Places.{IsBelow, IsAbove}
use Rattle.soc_base.proofs.sorted.place_of.Given as goal

abbrev pub invariant-loop-low : goal.invariant-loop-low
invariant-loop-low g l =
    (l.low ≤ l.high) × (l.high ≤ length l.entries)
    × IsBelow (map (λ e. (e.name, e.value)) l.entries) l.name l.low
    × IsAbove (map (λ e. (e.name, e.value)) l.entries) l.name l.high

abbrev pub decreases-loop-low : goal.decreases-loop-low
decreases-loop-low g l = l.high - l.low
