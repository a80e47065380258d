use Rattle.std.proofs.Common.{ap, ◌∙◌}
use Rattle.soc_throttle.specs.Verdicts.{are_short, decides}
use Rattle.soc_throttle.proofs.Names.{found_name-short}
use Rattle.soc_throttle.proofs.rule_set.RuleSet.verdict.Goals as goal

pub returns-in-Some-clause-short : goal.returns-in-Some-clause-short
returns-in-Some-clause-short c =
    found_name-short (decides c.args.annotations.now c.args.draw) c.as_slice.result.now c.in-Some.rule.now c.as_str.result.now (ap are_short c.as_slice.ensures.value ∙ c.self.invariant) c.in-Some.ensures c.as_str.ensures
