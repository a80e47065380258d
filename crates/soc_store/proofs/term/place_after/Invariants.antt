use Rattle.std.proofs.Common.{◌-◌, ◌<◌, ◌≤◌, ℕ, length, get_or}
use Rattle.soc_store.proofs.term.place_after.Given as goal

abbrev pub invariant-loop-low : goal.invariant-loop-low
invariant-loop-low l =
    (l.low ≤ l.high) × (l.high ≤ length l.places) × ((k : ℕ) → k < l.low → get_or l.places k 0 ≤ l.place) × ((k : ℕ) → l.high ≤ k → k < length l.places → l.place < get_or l.places k 0)

abbrev pub decreases-loop-low : goal.decreases-loop-low
decreases-loop-low l = l.high - l.low
