use Rattle.std.proofs.Common.{ap, ◌∙◌}
use Rattle.soc_ledger.specs.Events.{withdrawal_count}
use Rattle.soc_ledger.proofs.Counts.{withdrawn_count}
use Rattle.soc_ledger.proofs.ledger.Ledger.withdrawn.Goals as goal

pub returns : goal.returns
returns c = c.withdrawn.ensures ∙ (withdrawn_count _ _ _ _ c.self.invariant.tells ∙ ap (λ t. withdrawal_count t.log) c.self.view_is)
