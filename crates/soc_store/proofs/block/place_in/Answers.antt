use Rattle.std.proofs.Common.{◌+◌, ◌-◌, ◌/◌, arith, sym, ◌∙◌}
use Rattle.soc_store.proofs.IndexLemmas.{less_terms, greater_terms, equal_terms}
use Rattle.soc_store.proofs.block.place_in.Goals as goal

pub loop-low-preserved-in-Less : goal.loop-low-preserved-in-Less
loop-low-preserved-in-Less c = (
  omega arith,
  c.loop-low.invariant.1,
  less_terms c.args.slots.now c.args.value.now (c.loop-low.low + (c.loop-low.high - c.loop-low.low) / 2) c.index-slots-middle.result c.requires (omega arith) c.index-slots-middle.is (sym c.compare.ensures ∙ c.in-Less.is),
  c.loop-low.invariant.3,
)

pub loop-low-preserved : goal.loop-low-preserved
loop-low-preserved c = (
  omega arith,
  omega arith,
  c.loop-low.invariant.2,
  greater_terms c.args.slots.now c.args.value.now (c.loop-low.low + (c.loop-low.high - c.loop-low.low) / 2) c.index-slots-middle.result c.requires (omega arith) c.index-slots-middle.is (sym c.compare.ensures ∙ c.in-Greater.is),
)

pub returns-in-Equal : goal.returns-in-Equal
returns-in-Equal c =
    equal_terms c.args.slots.now c.args.value.now (c.loop-low.low + (c.loop-low.high - c.loop-low.low) / 2) c.index-slots-middle.result (omega arith) c.index-slots-middle.is (sym c.compare.ensures ∙ c.in-Equal.is)
