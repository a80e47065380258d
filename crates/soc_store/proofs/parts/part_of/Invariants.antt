use Rattle.std.proofs.Common.{◌≡◌, ◌+◌, ◌-◌, ◌<◌, ◌≤◌, length, take, drop}
use Rattle.std.specs.declared.cmp.Ordering.TheVariants.{Less, Greater}
use Rattle.std.specs.List.{AllByRecursion}
use Rattle.soc_schema.specs.Orders.{value_cmp}
use Rattle.soc_store.specs.inner.Parts.{blocks_of, joined}
use Rattle.soc_store.specs.inner.Postings.{Posting}
use Rattle.soc_store.proofs.parts.part_of.Given as goal

abbrev pub invariant-loop-low : goal.invariant-loop-low
invariant-loop-low l = record {
  order : l.low ≤ l.high;
  within : l.high < length l.parts;
  before : AllByRecursion (λ (t : Posting). value_cmp l.value t.value ≡ Greater) (joined (take l.low (blocks_of l.parts)));
  after : AllByRecursion (λ (t : Posting). value_cmp l.value t.value ≡ Less) (joined (drop (l.high + 1) (blocks_of l.parts)));
}

abbrev pub decreases-loop-low : goal.decreases-loop-low
decreases-loop-low l = l.high - l.low
