use Rattle.soc_book.proofs.Joinings.{may_more}
use Rattle.soc_book.proofs.book.Book.join_submission.Goals as goal

pub returns-in-Ok-clause-may : goal.returns-in-Ok-clause-may
returns-in-Ok-clause-may g c =
    let s = c.may_join.new.self in
    let joins = c.if-not-may_join.false in
    may_more s.ledger s.vault.journal s.limits c.args.batch.now c.args.submission c.push.new.self (c.may_join.ensures.room joins) (c.may_join.ensures.place joins) c.in-Ok.ensures c.may_join.ensures.may
