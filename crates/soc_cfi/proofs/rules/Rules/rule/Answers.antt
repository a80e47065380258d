use Rattle.std.proofs.Common.{◌∙◌, sym, arith}
use Rattle.std.specs.Option.{option_copied}
use Rattle.soc_symfile.specs.Views.{span_of}
use Rattle.soc_cfi.proofs.DeltaLemmas.{delta_step}
use Rattle.soc_cfi.proofs.rules.Rules.rule.Goals as goal

pub returns-in-Some : goal.returns-in-Some
returns-in-Some c =
    let step = delta_step (span_of c.args.self.now.span) c.args.self.now.offset c.loop-i.i c.args.register.now (option_copied c.rule_of_delta.result) c.loop-i-test.true c.loop-i.invariant.inside c.rule_of_delta.ensures in
    sym (rw c.in-Some.is at step) ∙ c.loop-i.invariant.same

pub loop-i-preserved : goal.loop-i-preserved
loop-i-preserved c =
    let step = delta_step (span_of c.args.self.now.span) c.args.self.now.offset c.loop-i.i c.args.register.now (option_copied c.rule_of_delta.result) c.loop-i-test.true c.loop-i.invariant.inside c.rule_of_delta.ensures in
    record { inside = omega (arith, c.loop-i.invariant.inside); same = sym (rw c.in_default.is at step) ∙ c.loop-i.invariant.same }
