use Rattle.std.proofs.Common.{◌∙◌}
use Rattle.soc_siglists.proofs.PatternLemmas.{made_pattern, no_text}
use Rattle.soc_siglists.proofs.reading.make_pattern.Goals as goal

pub returns-in_default-clause-made : goal.returns-in_default-clause-made
returns-in_default-clause-made g c = no_text c.args.text.now c.in_default.ensures.cases.0

pub returns-clause-made : goal.returns-clause-made
returns-clause-made g c =
    let text = c.in-Ok.ensures.cases.0 in
    (c.in_ok-of.ensures ∙ text, made_pattern c.in_ok-_made._made c.args.text.now (rw text at c.in_ok-_made.ensures.made) c.in-Ok.ensures.cases.1)
