use Rattle.std.proofs.Common.{Some, ap, sym, ◌∙◌}
use Rattle.soc_book.proofs.Words.{err_from_is_err_and, Looks-none}
use Rattle.soc_book.proofs.Readings.{dump_absent, dump_forbidden, dump_no_memory, dump_shown, dump_unread, dump_unseen}
use Rattle.soc_book.proofs.book.Book.dump_bytes.Goals as goal

pub returns-in_err-check-clause-does : goal.returns-in_err-check-clause-does
returns-in_err-check-clause-does g c = λ basis state stands.
    let p = err_from_is_err_and c.from_residual.result c.from_residual.ensures.1 in
    rw (p.1, p.2, c.in_err-check.ensures.1) (state, stands, dump_forbidden stands _ (Looks-none _ (g.met.D.Disk.sound c.args.self.now.vault.disk.now)) c.args.caller.now c.args.id c.args.name.now c.in_err-check.ensures.0)

pub returns-in_err-number-clause-does : goal.returns-in_err-number-clause-does
returns-in_err-number-clause-does g c = λ basis state stands.
    let p = err_from_is_err_and c.from_residual-in_err-number.result c.from_residual-in_err-number.ensures.1 in
    rw (p.1, p.2) (state, stands, dump_unseen stands _ (Looks-none _ (g.met.D.Disk.sound c.args.self.now.vault.disk.now)) c.args.caller.now c.args.id c.args.name.now c.in_ok-check.ensures c.in_err-number.field-0.0 c.in_err-number.ensures)

pub returns-in_err-raw-clause-does : goal.returns-in_err-raw-clause-does
returns-in_err-raw-clause-does g c = λ basis state stands.
    let p = err_from_is_err_and c.from_residual-in_err-raw.result c.from_residual-in_err-raw.ensures.1 in
    rw (p.1, p.2) (state, c.in_err-raw.ensures.stands basis state stands, dump_unread stands _ c.in_err-raw.ensures.looks c.args.caller.now c.args.id c.args.name.now c.in_ok-check.ensures c.in_ok-number.number c.in_err-raw.field-0.0 c.in_ok-number.ensures (c.in_err-raw.ensures.read basis state stands))

pub returns-in_default-clause-does : goal.returns-in_default-clause-does
returns-in_default-clause-does g c = λ basis state stands.
    (state, c.in_ok-raw.ensures.stands basis state stands, dump_absent stands _ c.in_ok-raw.ensures.looks c.args.caller.now c.args.id c.args.name.now c.in_ok-check.ensures c.in_ok-number.number c.in_ok-raw.raw c.in_ok-number.ensures (c.in_ok-raw.ensures.read basis state stands) (sym c.in_default.ensures))

pub returns-in_err-of-clause-does : goal.returns-in_err-of-clause-does
returns-in_err-of-clause-does g c = λ basis state stands.
    let p = err_from_is_err_and c.from_residual-in_err-of.result c.from_residual-in_err-of.ensures.1 in
    rw (p.1, p.2) (state, c.in_ok-raw.ensures.stands basis state stands, dump_no_memory stands _ c.in_ok-raw.ensures.looks c.args.caller.now c.args.id c.args.name.now c.in_ok-check.ensures c.in_ok-number.number c.in_ok-number.ensures)

pub returns-clause-does : goal.returns-clause-does
returns-clause-does g c = λ basis state stands. (
  state,
  c.in_ok-raw.ensures.stands basis state stands,
  dump_shown stands _ c.in_ok-raw.ensures.looks c.args.caller.now c.args.id c.args.name.now c.in_ok-check.ensures c.in_ok-number.number c.in_ok-raw.raw c.in_ok-of.field-0 c.in_ok-number.ensures (c.in_ok-raw.ensures.read basis state stands)
      (sym c.in-Some.ensures ∙ ap (λ bytes. Some bytes) (sym c.in_ok-of.ensures)),
)
