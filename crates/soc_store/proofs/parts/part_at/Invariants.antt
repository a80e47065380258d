use Rattle.std.proofs.Common.{ℕ, ◌-◌, ◌<◌, ◌≤◌, length, get_or}
use Rattle.soc_store.specs.declared.parts.Part.{Part}
use Rattle.soc_store.proofs.parts.part_at.Given as goal

abbrev pub invariant-loop-low : goal.invariant-loop-low
invariant-loop-low l = record {
  order : l.low ≤ l.high;
  within : l.high < length l.parts;
  start : (d : Part) → (k : ℕ) → k < l.low → (get_or l.parts k d).end ≤ l.i;
  end : (d : Part) → l.i < (get_or l.parts l.high d).end;
}

abbrev pub decreases-loop-low : goal.decreases-loop-low
decreases-loop-low l = l.high - l.low
