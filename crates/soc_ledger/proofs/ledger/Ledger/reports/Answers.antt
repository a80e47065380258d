use Rattle.std.proofs.Common.{ap, ◌∙◌}
use Rattle.soc_ledger.specs.Reported.{report_count}
use Rattle.soc_ledger.proofs.Counts.{reported_count}
use Rattle.soc_ledger.proofs.ledger.Ledger.reports.Goals as goal

pub returns : goal.returns
returns c = c.reported.ensures ∙ (reported_count _ _ _ _ c.self.invariant.tells ∙ ap (λ t. report_count t.log) c.self.view_is)
