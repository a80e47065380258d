use Rattle.std.proofs.Common.{◌∙◌}
use Rattle.soc_report.proofs.MomentLemmas.{date_is}
use Rattle.soc_report.proofs.moment.date_text.Goals as goal

pub returns : goal.returns
returns c = c.from.ensures ∙ c.in_ok-format.ensures.ok ∙ rw (c.laid_out.ensures, c.laid_out-2.ensures) (date_is c.args.date c.requires)
