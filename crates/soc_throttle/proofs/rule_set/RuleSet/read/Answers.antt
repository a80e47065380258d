use Rattle.std.proofs.Common.{ap, ◌∙◌}
use Rattle.toml.specs.View.{items_view}
use Rattle.soc_throttle.specs.Verdicts.{are_short}
use Rattle.soc_throttle.proofs.Names.{rules_among-short}
use Rattle.soc_throttle.proofs.rule_set.RuleSet.read.Goals as goal

pub invariant_of-result : goal.invariant_of-result
invariant_of-result c = ap are_short c.in_ok-rules_among-in-Some.ensures.rules ∙ rules_among-short (items_view c.in-Some.entries.now.items)
