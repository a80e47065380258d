use Rattle.std.proofs.Common.{◌∙◌, ap, sym, arith, ◌-◌, ◌+◌, ◌/◌}
use Rattle.soc_schema.specs.Values.{values_of}
use Rattle.soc_search.specs.inner.Runs.{comes_before}
use Rattle.soc_search.proofs.RunLemmas.{front_less, front_more}
use Rattle.soc_search.proofs.runs.count_before.Goals as goal

pub loop-low-init : goal.loop-low-init
loop-low-init c =
    let count = c.values-high.ensures.count in record {
      order = omega arith;
      within = omega arith;
      before = λ k d lt. absurd (omega arith);
      behind = λ k d le lt. absurd (omega arith);
    }

pub value_at-requires : goal.value_at-requires
value_at-requires c = let within = c.loop-low.invariant.within in omega arith

pub loop-low-preserved-then-comes_before : goal.loop-low-preserved-then-comes_before
loop-low-preserved-then-comes_before c =
    let within = c.loop-low.invariant.within in
    let middle = c.loop-low.low + (c.loop-low.high - c.loop-low.low) / 2 in
    record {
      order = omega arith;
      within = within;
      before = front_more c.args.how c.args.edge c.args.operand.now c.requires (values_of c.args.field c.args.store.now) c.values-high.ensures.rising middle c.value_at.result.now c.value_at.ensures
          (ap (comes_before c.args.edge) (sym c.stand-order.ensures) ∙ sym c.comes_before.ensures ∙ c.if-comes_before.true);
      behind = c.loop-low.invariant.behind;
    }

pub loop-low-preserved : goal.loop-low-preserved
loop-low-preserved c =
    let within = c.loop-low.invariant.within in
    let middle = c.loop-low.low + (c.loop-low.high - c.loop-low.low) / 2 in
    record {
      order = omega arith;
      within = omega arith;
      before = c.loop-low.invariant.before;
      behind = front_less c.args.how c.args.edge c.args.operand.now c.requires (values_of c.args.field c.args.store.now) c.values-high.ensures.rising middle c.value_at.result.now c.value_at.ensures
          (ap (comes_before c.args.edge) (sym c.stand-order.ensures) ∙ sym c.comes_before.ensures ∙ c.if-comes_before.false);
    }

pub returns : goal.returns
returns c =
    let order = c.loop-low.invariant.order in
    let within = c.loop-low.invariant.within in (
      omega arith,
      c.loop-low.invariant.before,
      λ k d le lt. c.loop-low.invariant.behind k d (omega arith) lt,
    )
