use Rattle.std.proofs.lemmas.Result.{IfOk-weaker}
use Rattle.soc_siglists.proofs.PatternLemmas.{led_by}
use Rattle.soc_siglists.proofs.pattern.Pattern.lead.Goals as goal

pub returns : goal.returns
returns c =
    IfOk-weaker c.lead_of.result _ _ (λ lead leads. led_by c.args.self.now c.self.inside.parsed.hir _ lead (rw c.self.view_is at c.self.invariant) leads) c.lead_of.ensures
