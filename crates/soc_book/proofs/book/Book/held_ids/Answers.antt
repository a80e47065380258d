use Rattle.std.proofs.Common.{true, false, sym, ap, ◌∙◌}
use Rattle.soc_book.proofs.Words.{Standing, append-nil, was_withdrawn}
use Rattle.soc_book.proofs.HeldIds.{held_more}
use Rattle.soc_book.proofs.book.Book.held_ids.Goals as goal
use Rattle.soc_book.proofs.book.Book.held_ids.Goals.{then-not-crash+in_ok-push, else-not-crash}

pub loop-number-preserved : goal.loop-number-preserved
loop-number-preserved g c =
    let ledger = c.args.self.now.ledger in
    let l = c.loop-number in
    let e = c.crash-crash.ensures in
    let crash = c.crash-crash.result.now.filed in
    let withdrawn = ap (λ (x : Standing). x.withdrawn) e.standing in
    let more = c.if-not-crash.ids.items in
    elim c.if-not-crash.branch [
      | then-not-crash+in_ok-push w ↦ held_more (was_withdrawn ledger.log) ledger.crashes l.number crash false l.ids.items more e.filed (sym w.if-not-crash.true ∙ withdrawn) l.invariant (ap (λ v. v.items) w.ids-is ∙ w.in_ok-push.ensures.items)
      | else-not-crash w ↦ held_more (was_withdrawn ledger.log) ledger.crashes l.number crash true l.ids.items more e.filed (sym w.if-not-crash.false ∙ withdrawn) l.invariant (ap (λ v. v.items) w.ids-is ∙ sym (append-nil l.ids.items))
    ]
