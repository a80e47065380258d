use Rattle.std.proofs.Common.{◌∙◌, ap, sym, arith, ◌-◌, ◌/◌}
use Rattle.std.specs.Ordering.{ordering_reverse}
use Rattle.soc_schema.proofs.OrderLemmas.{value_total}
use Rattle.soc_store.proofs.PartSteps.{some_in, step_less, step_equal, step_greater}
use Rattle.soc_store.proofs.parts.part_of.Goals as goal

pub compare_first-requires-clause-some : goal.compare_first-requires-clause-some
compare_first-requires-clause-some c =
    let within = c.loop-low.invariant.within in
    some_in c.args.parts.now (c.loop-low.high - (c.loop-low.high - c.loop-low.low) / 2) c.index-parts-middle.result c.requires.filled (omega arith) (omega arith)

pub loop-low-preserved : goal.loop-low-preserved
loop-low-preserved c =
    let within = c.loop-low.invariant.within in
    let middle = c.loop-low.high - (c.loop-low.high - c.loop-low.low) / 2 in
    record {
      order = omega arith;
      within = omega arith;
      before = c.loop-low.invariant.before;
      after = step_less c.args.parts.now middle c.index-parts-middle.result c.args.value.now c.compare_first.ensures.0 c.requires.rising (omega arith) c.compare_first.ensures.1 (middle - 1) (omega arith) (value_total.antisymm c.args.value.now c.compare_first.ensures.0 ∙ ap ordering_reverse (sym c.compare_first.ensures.2 ∙ c.in-Greater.is));
    }

pub loop-low-preserved-in-Equal : goal.loop-low-preserved-in-Equal
loop-low-preserved-in-Equal c =
    let within = c.loop-low.invariant.within in
    let middle = c.loop-low.high - (c.loop-low.high - c.loop-low.low) / 2 in
    record {
      order = omega arith;
      within = within;
      before = step_equal c.args.parts.now middle c.index-parts-middle.result c.args.value.now c.compare_first.ensures.0 c.requires.rising (omega arith) c.compare_first.ensures.1 (value_total.antisymm c.args.value.now c.compare_first.ensures.0 ∙ ap ordering_reverse (sym c.compare_first.ensures.2 ∙ c.in-Equal.is));
      after = c.loop-low.invariant.after;
    }

pub loop-low-preserved-in-Less : goal.loop-low-preserved-in-Less
loop-low-preserved-in-Less c =
    let within = c.loop-low.invariant.within in
    let middle = c.loop-low.high - (c.loop-low.high - c.loop-low.low) / 2 in
    record {
      order = omega arith;
      within = within;
      before = step_greater c.args.parts.now middle c.index-parts-middle.result c.args.value.now c.compare_first.ensures.0 c.requires.rising (omega arith) c.compare_first.ensures.1 (value_total.antisymm c.args.value.now c.compare_first.ensures.0 ∙ ap ordering_reverse (sym c.compare_first.ensures.2 ∙ c.in-Less.is));
      after = c.loop-low.invariant.after;
    }
