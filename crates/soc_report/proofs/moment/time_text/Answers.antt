use Rattle.std.proofs.Common.{◌∙◌}
use Rattle.soc_report.proofs.MomentLemmas.{time_is}
use Rattle.soc_report.proofs.moment.time_text.Goals as goal

pub returns : goal.returns
returns c =
    c.from.ensures ∙ c.in_ok-format.ensures.ok
    ∙ rw (c.laid_out.ensures, c.laid_out-2.ensures, c.laid_out-3.ensures) (time_is c.args.second c.requires)
