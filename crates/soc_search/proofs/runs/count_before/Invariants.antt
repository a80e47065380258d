use Rattle.std.proofs.Common.{◌≡◌, ℕ, ◌-◌, ◌<◌, ◌≤◌, true, false, length, get_or}
use Rattle.soc_schema.specs.declared.value.Value.{Value}
use Rattle.soc_schema.specs.Values.{values_of}
use Rattle.soc_search.specs.inner.Runs.{comes_before, stands}
use Rattle.soc_search.proofs.runs.count_before.Given as goal

abbrev pub invariant-loop-low : goal.invariant-loop-low
invariant-loop-low l = record {
  order : l.low ≤ l.high;
  within : l.high ≤ length (values_of l.field l.store);
  before : (k : ℕ) (d : Value) → k < l.low → comes_before l.edge (stands l.how l.operand (get_or (values_of l.field l.store) k d)) ≡ true;
  behind : (k : ℕ) (d : Value) → l.high ≤ k → k < length (values_of l.field l.store) → comes_before l.edge (stands l.how l.operand (get_or (values_of l.field l.store) k d)) ≡ false;
}

abbrev pub decreases-loop-low : goal.decreases-loop-low
decreases-loop-low l = l.high - l.low
