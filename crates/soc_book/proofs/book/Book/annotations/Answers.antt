use Rattle.soc_book.proofs.Words.{err_from_is_err_and, Looks-none}
use Rattle.soc_book.proofs.Readings.{raw_kind, raw_no_memory, raw_shown, raw_unread, raw_unseen}
use Rattle.soc_book.proofs.book.Book.annotations.Goals as goal

pub returns-in_err-number-clause-does : goal.returns-in_err-number-clause-does
returns-in_err-number-clause-does g c = λ basis state stands.
    let p = err_from_is_err_and c.from_residual.result c.from_residual.ensures.1 in
    rw (p.1, p.2) (state, stands, raw_unseen stands _ (Looks-none _ (g.met.D.Disk.sound c.args.self.now.vault.disk.now)) c.args.caller.now c.args.id c.in_err-number.field-0.0 c.in_err-number.ensures)

pub returns-in_err-raw-clause-does : goal.returns-in_err-raw-clause-does
returns-in_err-raw-clause-does g c = λ basis state stands.
    let p = err_from_is_err_and c.from_residual-in_err-raw.result c.from_residual-in_err-raw.ensures.1 in
    rw (p.1, p.2) (state, c.in_err-raw.ensures.stands basis state stands, raw_unread stands _ c.in_err-raw.ensures.looks c.args.caller.now c.args.id c.in_ok-number.number c.in_err-raw.field-0.0 c.in_ok-number.ensures (c.in_err-raw.ensures.read basis state stands))

pub returns-in_err-shown-clause-does : goal.returns-in_err-shown-clause-does
returns-in_err-shown-clause-does g c = λ basis state stands.
    let p = err_from_is_err_and c.from_residual-in_err-shown.result c.from_residual-in_err-shown.ensures.1 in
    rw (p.1, p.2) (state, c.in_ok-raw.ensures.stands basis state stands, raw_no_memory stands _ c.in_ok-raw.ensures.looks c.args.caller.now c.args.id c.in_ok-number.number c.in_ok-number.ensures)

pub returns-clause-does : goal.returns-clause-does
returns-clause-does g c = λ basis state stands.
    (state, c.in_ok-raw.ensures.stands basis state stands, raw_shown stands _ c.in_ok-raw.ensures.looks c.args.caller.now c.args.id c.in_ok-number.number c.in_ok-raw.raw c.in_ok-shown.shown c.in_ok-number.ensures (c.in_ok-raw.ensures.read basis state stands) c.in_ok-shown.ensures)

pub returns-clause-kind : goal.returns-clause-kind
returns-clause-kind g c = raw_kind c.args.caller.now c.args.id c.in_ok-shown.shown c.in_ok-raw.raw.annotations c.in_ok-shown.ensures
