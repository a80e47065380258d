use Rattle.std.proofs.Common.{◌+◌, ◌-◌, ◌/◌, ◌<◌, length, arith, map, sym, ◌∙◌}
use Rattle.soc_ledger.proofs.Index.{above_from, below_from, compared, equal_texts}
use Rattle.soc_ledger.proofs.crashes.place_of.Goals as goal

pub loop-low-preserved-in-Less : goal.loop-low-preserved-in-Less
loop-low-preserved-in-Less c =
    let inv = c.loop-low.invariant in
    let middle = c.loop-low.low + (c.loop-low.high - c.loop-low.low) / 2 in (
      omega arith,
      inv.1,
      below_from (map (λ crash. crash.filed.id) c.args.crashes.now) c.args.numbers.now c.args.id.now c.requires middle (omega arith)
          (compared c.args.crashes.now c.args.numbers.now middle c.index-crashes-numbers.result c.args.id.now c.requires (omega arith) c.index-crashes-numbers.is (sym c.compare.ensures ∙ c.in-Less.is)),
      inv.3,
    )

pub returns-in-Equal : goal.returns-in-Equal
returns-in-Equal c =
    let middle = c.loop-low.low + (c.loop-low.high - c.loop-low.low) / 2 in
    let lt : middle < length c.args.numbers.now = omega arith in
    (lt, equal_texts _ _ (compared c.args.crashes.now c.args.numbers.now middle c.index-crashes-numbers.result c.args.id.now c.requires lt c.index-crashes-numbers.is (sym c.compare.ensures ∙ c.in-Equal.is)))

pub loop-low-preserved : goal.loop-low-preserved
loop-low-preserved c =
    let inv = c.loop-low.invariant in
    let middle = c.loop-low.low + (c.loop-low.high - c.loop-low.low) / 2 in (
      omega arith,
      omega arith,
      inv.2,
      above_from (map (λ crash. crash.filed.id) c.args.crashes.now) c.args.numbers.now c.args.id.now c.requires middle (omega arith)
          (compared c.args.crashes.now c.args.numbers.now middle c.index-crashes-numbers.result c.args.id.now c.requires (omega arith) c.index-crashes-numbers.is (sym c.compare.ensures ∙ c.in-Greater.is)),
    )
