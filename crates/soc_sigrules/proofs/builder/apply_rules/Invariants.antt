use Rattle.std.proofs.Common.{◌≡◌, drop}
use Rattle.soc_sigrules.specs.Rules.{after_all, after_rules}
use Rattle.soc_sigrules.proofs.builder.apply_rules.Given as goal

-- the rules that are left make of what was reached what all of them make of the text
abbrev pub invariant-loop-rule : goal.invariant-loop-rule
invariant-loop-rule l =
    after_all l.fn.crash.watched l.fn.crash.input.now l.marked (drop l.rule-index l.rule-items) ≡ after_rules l.fn.crash.watched l.fn.crash.input.now l.fn.text
