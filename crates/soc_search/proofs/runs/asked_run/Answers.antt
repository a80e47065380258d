use Rattle.std.proofs.Common.{◌∙◌, sym, arith}
use Rattle.soc_schema.specs.Values.{values_of}
use Rattle.soc_search.proofs.RunLemmas.{out_before, out_behind}
use Rattle.soc_search.proofs.runs.asked_run.Goals as goal

pub loop-condition-preserved : goal.loop-condition-preserved
loop-condition-preserved c =
    let vs = values_of c.args.field c.args.store.now in
    let asked = c.args.asked.now in
    let i = c.loop-condition.condition-index in
    let k = c.condition-item.result in
    let run = c.loop-condition.run in
    let part = c.run_of-part.result in
    let here = sym c.condition-item.is in
    let absent = sym c.requires ∙ c.if-absent.false in (
      omega (arith, c.loop-condition.invariant.0, c.min.ensures),
      out_before asked i k vs c.loop-condition-test.true here absent run.first part.first c.max.result c.max.ensures c.loop-condition.invariant.1 c.run_of-part.ensures.before,
      out_behind asked i k vs c.loop-condition-test.true here absent run.end part.end c.min.result c.min.ensures c.loop-condition.invariant.2 c.run_of-part.ensures.behind,
    )
