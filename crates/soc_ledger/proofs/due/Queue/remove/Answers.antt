use Rattle.std.proofs.Common.{rules, ◌<◌, ◌≤◌, length, ap, sym, subst, ◌∙◌, filter, ◌==◌, not}
use Rattle.std.proofs.lemmas.Fn.{always_returns_same}
use Rattle.std.specs.Prelude.{IsSome}
use Rattle.soc_ledger.specs.inner.Tables.{IsInOrder}
use Rattle.soc_ledger.proofs.Order.{found_none, left, order-filter}
use Rattle.soc_ledger.proofs.due.Queue.remove.Goals as goal

pub invariant_of-self : goal.invariant_of-self
invariant_of-self c =
    let found = c.in-Ok.ensures.position (λ d. d.since) (always_returns_same _ _ _ (λ a r g called. (search rules, search rules))) in
    let lt : c.in-Ok.i < length c.self.inside.due.items = search rules in
    let some : IsSome c.remove.result = search rules in
    let due = c.self.inside.due.items in
    subst IsInOrder (sym (left c.args.since due c.self.invariant c.in-Ok.i c.remove.result _ lt found some c.remove.ensures.items)) (order-filter _ due c.self.invariant)

pub returns-in-Ok-clause-due : goal.returns-in-Ok-clause-due
returns-in-Ok-clause-due c =
    let found = c.in-Ok.ensures.position (λ d. d.since) (always_returns_same _ _ _ (λ a r g called. (search rules, search rules))) in
    let lt : c.in-Ok.i < length c.self.inside.due.items = search rules in
    let some : IsSome c.remove.result = search rules in
    left c.args.since c.self.inside.due.items c.self.invariant c.in-Ok.i c.remove.result _ lt found some c.remove.ensures.items
    ∙ ap (λ t. filter (λ d. not (d.since == c.args.since)) t.due) c.self.view_is

pub returns-in_default-clause-due : goal.returns-in_default-clause-due
returns-in_default-clause-due c =
    let found = c.in_default.ensures.position (λ d. d.since) (always_returns_same _ _ _ (λ a r g called. (search rules, search rules))) in
    let le : c.in_default.field-0 ≤ length c.self.inside.due.items = search rules in
    ap (λ t. t.due) (sym c.self.view_is) ∙ (sym (found_none c.args.since c.self.inside.due.items c.self.invariant c.in_default.field-0 le found) ∙ ap (λ t. filter (λ d. not (d.since == c.args.since)) t.due) c.self.view_is)
