use Rattle.std.proofs.Common.{sym, ◌∙◌}
use Rattle.soc_book.proofs.Words.{err_from_is_err_and, Looks-none}
use Rattle.soc_book.proofs.Readings.{processed_no_memory, processed_unseen, not_processed, row_kind, row_shown}
use Rattle.soc_book.proofs.book.Book.report.Goals as goal

pub returns-in_err-number-clause-does : goal.returns-in_err-number-clause-does
returns-in_err-number-clause-does g c = λ basis state stands.
    let p = err_from_is_err_and c.from_residual.result c.from_residual.ensures.1 in
    rw (p.1, p.2) (state, stands, processed_unseen stands _ (Looks-none _ (g.met.D.Disk.sound c.args.self.now.vault.disk.now)) c.args.caller.now c.args.id c.in_err-number.field-0.0 c.in_err-number.ensures)

pub returns-in_err-row-clause-does : goal.returns-in_err-row-clause-does
returns-in_err-row-clause-does g c = λ basis state stands.
    let p = err_from_is_err_and c.from_residual-in_err-row.result c.from_residual-in_err-row.ensures.1 in
    rw (p.1, p.2) (state, stands, processed_no_memory stands _ (Looks-none _ (g.met.D.Disk.sound c.args.self.now.vault.disk.now)) c.args.caller.now c.args.id c.in_ok-number.number c.in_ok-number.ensures)

pub returns-in-Some-clause-does : goal.returns-in-Some-clause-does
returns-in-Some-clause-does g c = λ basis state stands.
    (state, stands, row_shown stands _ (Looks-none _ (g.met.D.Disk.sound c.args.self.now.vault.disk.now)) c.args.caller.now c.args.id c.in_ok-number.number c.in_ok-number.ensures c.in-Some.row (sym c.in-Some.is ∙ c.in_ok-row.ensures))

pub returns-in-None-clause-does : goal.returns-in-None-clause-does
returns-in-None-clause-does g c = λ basis state stands.
    (state, stands, not_processed stands _ (Looks-none _ (g.met.D.Disk.sound c.args.self.now.vault.disk.now)) c.args.caller.now c.args.id c.in_ok-number.number c.in_ok-number.ensures (sym c.in-None.is ∙ c.in_ok-row.ensures))

pub returns-in-Some-clause-kind : goal.returns-in-Some-clause-kind
returns-in-Some-clause-kind g c = row_kind c.args.caller.now c.args.id c.in-Some.row _ (sym c.in-Some.is ∙ c.in_ok-row.ensures)

pub returns-in_err-number-clause-looks : goal.returns-in_err-number-clause-looks
returns-in_err-number-clause-looks g c = Looks-none _ (g.met.D.Disk.sound c.args.self.now.vault.disk.now)

pub returns-in_err-row-clause-looks : goal.returns-in_err-row-clause-looks
returns-in_err-row-clause-looks g c = Looks-none _ (g.met.D.Disk.sound c.args.self.now.vault.disk.now)

pub returns-in-Some-clause-looks : goal.returns-in-Some-clause-looks
returns-in-Some-clause-looks g c = Looks-none _ (g.met.D.Disk.sound c.args.self.now.vault.disk.now)

pub returns-in-None-clause-looks : goal.returns-in-None-clause-looks
returns-in-None-clause-looks g c = Looks-none _ (g.met.D.Disk.sound c.args.self.now.vault.disk.now)
