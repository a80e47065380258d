use Rattle.std.proofs.Common.{◌∙◌}
use Rattle.std.proofs.lemmas.Result.{IfOk-weaker}
use Rattle.soc_sigrules.proofs.RuleLemmas.{memory_small, memory_large, memory_unknown}
use Rattle.soc_sigrules.proofs.rules.memory_text.Goals as goal

pub returns-then-size-le-SMALL : goal.returns-then-size-le-SMALL
returns-then-size-le-SMALL c =
    let number = rw c.as_bytes.ensures.value at c.in-Some.ensures in
    IfOk-weaker c.of.result _ _ (λ _ is. is ∙ memory_small c.args.size.now c.args.text.now c.in-Some.size number c.if-size-le-SMALL.true) c.of.ensures

pub returns-in_ok-format-in-Some : goal.returns-in_ok-format-in-Some
returns-in_ok-format-in-Some c =
    let number = rw c.as_bytes.ensures.value at c.in-Some.ensures in
    c.from.ensures ∙ c.in_ok-format-in-Some.ensures.ok ∙ memory_large c.args.size.now c.args.text.now c.in-Some.size number c.if-size-le-SMALL.false

pub returns-in_ok-format-in-None : goal.returns-in_ok-format-in-None
returns-in_ok-format-in-None c =
    let no_number = rw c.as_bytes.ensures.value at c.in-None.ensures in
    c.from-in-None.ensures ∙ c.in_ok-format-in-None.ensures.ok ∙ memory_unknown c.args.size.now c.args.text.now no_number
