use Rattle.std.proofs.Common.{subst, sym}
use Rattle.soc_ledger.specs.inner.Tables.{AreBefore}
use Rattle.soc_ledger.proofs.Order.{order-pushed}
use Rattle.soc_ledger.proofs.due.Queue.follow.Goals as goal

pub invariant_of-self : goal.invariant_of-self
invariant_of-self c =
    order-pushed c.self.inside.due.items _ (record { since = c.in-Some-after.since; number = c.args.number }) c.push_back.result c.unwrap.result
    c.push_back.ensures.items c.unwrap.ensures c.self.invariant
    (subst (λ t. AreBefore c.in-Some-after.since t.due) (sym c.self.view_is) (c.requires.later c.in-Some-after.since c.in-None.is c.in-Some-after.is))
