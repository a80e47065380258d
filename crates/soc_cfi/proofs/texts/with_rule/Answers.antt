use Rattle.std.proofs.Common.{arith}
use Rattle.soc_cfi.specs.Views.{rule_at}
use Rattle.soc_cfi.proofs.AllLemmas.{chosen_next}
use Rattle.soc_cfi.proofs.texts.with_rule.Goals as goal

pub loop-i-preserved : goal.loop-i-preserved
loop-i-preserved c = record {
  len = c.loop-i.invariant.len;
  each = chosen_next c.args.names.now c.loop-i.found.items (rule_at c.args.found.items) c.loop-i.i c.args.register.now c.args.rule.now c.chosen.result
      (omega (arith, c.loop-i.found.ok, c.loop-i.invariant.len)) c.loop-i-test.true _ c.index.result.now c.index.ensures c.chosen.ensures c.loop-i.invariant.each;
}
