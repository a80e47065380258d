use Rattle.soc_book.proofs.Words.{err_from_is_err_and, Looks-none}
use Rattle.soc_book.proofs.Readings.{record_unread, record_unseen, recorded}
use Rattle.soc_book.proofs.book.Book.record.Goals as goal

pub returns-in_err-number-clause-does : goal.returns-in_err-number-clause-does
returns-in_err-number-clause-does g c = λ basis state stands.
    let p = err_from_is_err_and c.from_residual.result c.from_residual.ensures.1 in
    rw (p.1, p.2) (state, stands, record_unseen stands _ (Looks-none _ (g.met.D.Disk.sound c.args.self.now.vault.disk.now)) c.args.caller.now c.args.id c.in_err-number.field-0.0 c.in_err-number.ensures)

pub returns-in_err-raw-clause-does : goal.returns-in_err-raw-clause-does
returns-in_err-raw-clause-does g c = λ basis state stands.
    let p = err_from_is_err_and c.from_residual-in_err-raw.result c.from_residual-in_err-raw.ensures.1 in
    rw (p.1, p.2) (state, c.in_err-raw.ensures.stands basis state stands, record_unread stands _ c.in_err-raw.ensures.looks c.args.caller.now c.args.id c.in_ok-number.number c.in_err-raw.field-0.0 c.in_ok-number.ensures (c.in_err-raw.ensures.read basis state stands))

pub returns-clause-does : goal.returns-clause-does
returns-clause-does g c = λ basis state stands.
    (state, c.in_ok-raw.ensures.stands basis state stands, recorded stands _ c.in_ok-raw.ensures.looks c.args.caller.now c.args.id c.in_ok-number.number c.in_ok-raw.raw c.in_ok-number.ensures (c.in_ok-raw.ensures.read basis state stands))
