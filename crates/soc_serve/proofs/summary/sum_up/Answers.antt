use Rattle.std.proofs.Common.{ap, sym, ◌∙◌}
use Rattle.soc_serve.proofs.Storms.{subsided}
use Rattle.soc_serve.proofs.summary.sum_up.Goals as goal

pub returns-clause-subsides : goal.returns-clause-subsides
returns-clause-subsides g c basis state rows told stands =
    let did = c.drain.ensures.ends basis state rows stands in
    let same = rows ∙ sym (ap g.R.Reporter.row_of c.drain.ensures.setting.reporter) in
    subsided basis state did.0 _ _ c.drain.result c.args.count c.crashes-crashes.result c.reports.result c.in_ok-text.text.items c.from.result c.in-Ok.is did.2
    (c.crashes-crashes.ensures.of_log basis did.0 did.1) (c.reports.ensures.of_log basis did.0 did.1) c.if-crashes-count.false c.in_ok-text.ensures
    (c.from.ensures ∙ c.in_ok-push_signatures.ensures.pushed basis did.0 same told did.1)
