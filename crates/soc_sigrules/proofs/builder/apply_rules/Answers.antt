use Rattle.std.proofs.Common.{List, ℕ, ap}
use Rattle.soc_sigrules.specs.Rules.{after_all, rules}
use Rattle.soc_sigrules.proofs.OrderLemmas.{rules-more, rules-end}
use Rattle.soc_sigrules.proofs.builder.apply_rules.Goals as goal

pub loop-rule-init : goal.loop-rule-init
loop-rule-init c =
    ap (λ (notes : List (List ℕ)). after_all c.args.crash.watched c.args.crash.input.now (record { text = c.args.text; notes = notes }) rules) c.new.ensures

pub loop-rule-preserved : goal.loop-rule-preserved
loop-rule-preserved c =
    rules-more c.args.crash.watched c.args.crash.input.now c.loop-rule.marked c.in_ok-marked.marked _ rules c.loop-rule.rule-index _ c.loop-rule.invariant c.loop-rule-test.true
    c.in_ok-marked.ensures

pub returns : goal.returns
returns c = rules-end c.args.crash.watched c.args.crash.input.now c.loop-rule.marked _ rules c.loop-rule.rule-index c.loop-rule.invariant c.loop-rule-test.false
