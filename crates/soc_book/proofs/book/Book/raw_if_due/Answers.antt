use Rattle.std.proofs.Common.{true, false}
use Rattle.soc_book.proofs.Words.{err_from_is_err_and, Looks-none}
use Rattle.soc_book.proofs.Turnings.{due_by, fetch_absent, fetch_idle, fetch_unread, fetched}
use Rattle.soc_book.proofs.book.Book.raw_if_due.Goals as goal

pub returns-in_default-clause-does : goal.returns-in_default-clause-does
returns-in_default-clause-does g c = λ basis state stands.
    (state, stands, fetch_absent stands _ (Looks-none _ (g.met.D.Disk.sound c.args.self.now.vault.disk.now)) c.args.id c.in_default.ensures)

pub returns-then-is_none-clause-does : goal.returns-then-is_none-clause-does
returns-then-is_none-clause-does g c = λ basis state stands. (
  state,
  stands,
  fetch_idle stands _ (Looks-none _ (g.met.D.Disk.sound c.args.self.now.vault.disk.now)) c.args.id c.in-Some.ensures.held
      (due_by c.args.self.now.ledger c.args.id c.in-Some.number c.crash.result.now.filed c.crash.result.now.standing false c.in-Some.ensures c.crash.ensures.filed c.crash.ensures.standing c.if-is_none.ensures),
)

pub returns-in_err-raw-clause-does : goal.returns-in_err-raw-clause-does
returns-in_err-raw-clause-does g c = λ basis state stands.
    let p = err_from_is_err_and c.from_residual.result c.from_residual.ensures.1 in
    rw (p.1, p.2) (
      state,
      c.in_err-raw.ensures.stands basis state stands,
      fetch_unread stands _ c.in_err-raw.ensures.looks c.args.id
          (due_by c.args.self.now.ledger c.args.id c.in-Some.number c.crash.result.now.filed c.crash.result.now.standing true c.in-Some.ensures c.crash.ensures.filed c.crash.ensures.standing c.if-is_none.ensures)
          c.in-Some.number c.in_err-raw.field-0.0 c.in-Some.ensures (c.in_err-raw.ensures.read basis state stands),
    )

pub returns-clause-does : goal.returns-clause-does
returns-clause-does g c = λ basis state stands. (
  state,
  c.in_ok-raw.ensures.stands basis state stands,
  fetched stands _ c.in_ok-raw.ensures.looks c.args.id
      (due_by c.args.self.now.ledger c.args.id c.in-Some.number c.crash.result.now.filed c.crash.result.now.standing true c.in-Some.ensures c.crash.ensures.filed c.crash.ensures.standing c.if-is_none.ensures)
      c.in-Some.number c.in_ok-raw.raw c.in-Some.ensures (c.in_ok-raw.ensures.read basis state stands),
)
