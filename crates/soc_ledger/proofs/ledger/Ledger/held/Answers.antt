use Rattle.std.proofs.Common.{ap, ◌∙◌, ◌-◌, length}
use Rattle.std.specs.Prelude.{count_by}
use Rattle.soc_ledger.specs.Events.{held_ids}
use Rattle.soc_ledger.proofs.Counts.{held_count}
use Rattle.soc_ledger.proofs.Whole.{id_count}
use Rattle.soc_ledger.proofs.ledger.Ledger.held.Goals as goal

pub returns : goal.returns
returns c =
    ap (λ n. c.len.result - n) c.withdrawn.ensures
    ∙ (ap (λ n. n - count_by (λ s. s.withdrawn) c.self.inside.crashes.standings) (c.len.ensures.count ∙ id_count c.self.inside.crashes.filed)
    ∙ (held_count _ _ _ _ c.self.invariant.tells ∙ ap (λ t. length (held_ids t.log)) c.self.view_is))
