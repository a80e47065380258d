use Rattle.std.proofs.Common.{◌≡◌, ◌-◌, ◌≤◌, length}
use Rattle.std.specs.declared.cmp.Ordering.TheVariants.{Less, Greater}
use Rattle.std.specs.List.{AllWithin}
use Rattle.soc_schema.specs.Orders.{value_cmp}
use Rattle.soc_store.specs.inner.Postings.{Posting}
use Rattle.soc_store.proofs.block.place_in.Given as goal

abbrev pub invariant-loop-low : goal.invariant-loop-low
invariant-loop-low l =
    (l.low ≤ l.high) × (l.high ≤ length l.slots)
    × AllWithin (λ (y : Posting). value_cmp y.value l.value ≡ Less) l.slots 0 l.low
    × AllWithin (λ (y : Posting). value_cmp y.value l.value ≡ Greater) l.slots l.high (length l.slots)

abbrev pub decreases-loop-low : goal.decreases-loop-low
decreases-loop-low l = l.high - l.low
