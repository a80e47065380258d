use Rattle.std.proofs.Common.{ℕ, ◌-◌, ◌<◌, ◌≤◌, length, drop}
use Rattle.soc_multipart.specs.Delimiters.{IsAtDelimiter}
use Rattle.soc_multipart.proofs.delimiters.next_delimiter.Given as goal

-- no delimiter stands before the place from which the search goes on
abbrev pub invariant-loop-at : goal.invariant-loop-at
invariant-loop-at l = (l.from ≤ length l.text) × ((i : ℕ) → i < l.from → ¬ (IsAtDelimiter l.finder (drop i l.text)))

abbrev pub decreases-loop-at : goal.decreases-loop-at
decreases-loop-at l = length l.text - l.from
