use Rattle.std.proofs.Common.{ℕ, ◌-◌, ◌<◌, ◌≤◌, length, get_or}
use Rattle.soc_schema.specs.inner.Places.{fields}
use Rattle.soc_schema.proofs.row.place_of.Given as goal

abbrev pub invariant-loop-low : goal.invariant-loop-low
invariant-loop-low l =
    (l.low ≤ l.high) × (l.high ≤ length l.cells) × ((k : ℕ) → k < l.low → get_or (fields l.cells) k 0 < l.field) × ((k : ℕ) → l.high ≤ k → k < length l.cells → l.field ≤ get_or (fields l.cells) k 0)

abbrev pub decreases-loop-low : goal.decreases-loop-low
decreases-loop-low l = l.high - l.low
