use Rattle.std.proofs.Common.{◌∙◌}
use Rattle.soc_book.proofs.Words.{err_from_is_err_and}
use Rattle.soc_book.proofs.Openings.{opens_book, stops_entry}
use Rattle.soc_book.proofs.Recoveries.{nothing_yet}
use Rattle.soc_book.proofs.opening.Restored.read.Goals as goal

pub open-requires : goal.open-requires
open-requires g c = λ start. nothing_yet c.digest.result c.new.result c.new-2.result start c.new.ensures c.new-2.ensures

pub returns-in_err-journal-clause-bad_entry : goal.returns-in_err-journal-clause-bad_entry
returns-in_err-journal-clause-bad_entry g c place =
    let p = err_from_is_err_and c.from_residual.result c.from_residual.ensures.1 in
    rw (p.1, p.2) (λ is. stops_entry c.open.new.into (g.D.Disk.state c.args.disk.now).content place (c.in_err-journal.ensures.bad_entry place (cc)))

pub returns-clause-opens : goal.returns-clause-opens
returns-clause-opens g c = λ basis is.
    opens_book c.open.new.into.own c.open.new.into.ledger c.open.new.into.store c.args.limits (g.R.Reporter.row_of c.args.reporter.now) (g.R.Reporter.digest_of c.args.reporter.now)
    (g.D.Disk.state c.args.disk.now) (g.D.Disk.state c.open.new.disk) c.in_ok-journal.journal c.journal_bytes-limit.result c.journal_bytes-limit.ensures c.journal_bytes-limit.type_inv c.in_ok-journal.ensures.opens
    (c.open.ensures.name_stays ∙ c.digest.ensures) basis is
