use Rattle.std.proofs.Common.{◌≡◌, ◌-◌, ◌≤◌, length}
use Rattle.std.specs.declared.cmp.Ordering.TheVariants.{Less, Greater}
use Rattle.std.specs.List.{AllWithin}
use Rattle.std.specs.Option.{option_copied}
use Rattle.soc_store.specs.declared.counts.ProductCount.{ProductCount}
use Rattle.soc_store.specs.Orders.{product_cmp}
use Rattle.soc_store.proofs.counts.place_in.Given as goal

abbrev pub invariant-loop-low : goal.invariant-loop-low
invariant-loop-low l =
    (l.low ≤ l.high) × (l.high ≤ length l.counts)
    × AllWithin (λ (y : ProductCount). product_cmp y.product (option_copied l.product) ≡ Less) l.counts 0 l.low
    × AllWithin (λ (y : ProductCount). product_cmp y.product (option_copied l.product) ≡ Greater) l.counts l.high (length l.counts)

abbrev pub decreases-loop-low : goal.decreases-loop-low
decreases-loop-low l = l.high - l.low
