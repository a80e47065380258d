use Rattle.std.proofs.Common.{◌+◌, ◌-◌, ◌/◌, arith, sym, ◌∙◌}
use Rattle.std.specs.Option.{option_copied}
use Rattle.soc_store.proofs.Tables.{below_from, above_from}
use Rattle.soc_store.proofs.CountLemmas.{product}
use Rattle.soc_store.proofs.OrderLemmas.{product_total}
use Rattle.soc_store.proofs.counts.place_in.Goals as goal

pub loop-low-preserved-in-Less : goal.loop-low-preserved-in-Less
loop-low-preserved-in-Less c =
    (omega arith, omega arith, below_from product product_total (option_copied c.args.product) c.args.counts.now (c.loop-low.low + (c.loop-low.high - c.loop-low.low) / 2) c.index-counts-middle.result c.requires (omega arith) (sym c.compare_products.ensures ∙ c.in-Less.is), c.loop-low.invariant.3)

pub loop-low-preserved : goal.loop-low-preserved
loop-low-preserved c =
    (omega arith, omega arith, c.loop-low.invariant.2, above_from product product_total (option_copied c.args.product) c.args.counts.now (c.loop-low.low + (c.loop-low.high - c.loop-low.low) / 2) c.index-counts-middle.result c.requires (omega arith) (sym c.compare_products.ensures ∙ c.in-Greater.is))
