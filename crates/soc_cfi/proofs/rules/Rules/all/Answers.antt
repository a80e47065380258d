use Rattle.std.proofs.Common.{arith}
use Rattle.soc_symfile.specs.Views.{span_of}
use Rattle.soc_cfi.specs.Views.{name_at, rule_at}
use Rattle.soc_cfi.proofs.AllLemmas.{delta_more}
use Rattle.soc_cfi.proofs.rules.Rules.all.Goals as goal

pub loop-i-preserved : goal.loop-i-preserved
loop-i-preserved c = record {
  len = c.with_delta-found.ensures.len;
  each = λ k below. delta_more (span_of c.args.self.now.span) c.args.self.now.offset c.loop-i.i (name_at c.args.names.now k) (rule_at c.loop-i.found.items k) (rule_at c.with_delta-found.result.items k)
      (omega (arith, c.loop-i-test.true, c.deltas-i-end.ensures)) (c.loop-i.invariant.each k below) (c.with_delta-found.ensures.each k below);
}
