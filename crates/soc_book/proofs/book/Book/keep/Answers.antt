use Rattle.std.proofs.Common.{sym, ◌∙◌, ap, subst}
use Rattle.soc_book.proofs.Words.{Reply, KeepsReports, StandsFor}
use Rattle.soc_book.proofs.Keepings.{keeps_settled, mend_fails}
use Rattle.soc_book.proofs.Searches.{rows_tell}
use Rattle.soc_book.proofs.Standing.{allowed_in}
use Rattle.soc_book.proofs.book.Book.keep.Goals as goal

pub returns-in-Err-clause-keeps : goal.returns-in-Err-clause-keeps
returns-in-Err-clause-keeps g c basis state rows digest stands =
    let s = c.args.self.now in
    let n = c.settle.new.self in
    mend_fails basis state (g.D.Disk.state s.vault.disk.now) (g.D.Disk.state n.vault.disk.now)
    (StandsFor basis n) (λ after at. at.legal) c.in-Err.refusal c.in-Err.ensures.looks
    (allowed_in stands) c.in-Err.ensures.fault (c.in-Err.ensures.begins basis state stands)

pub returns-in-Ok-clause-keeps : goal.returns-in-Ok-clause-keeps
returns-in-Ok-clause-keeps g c basis state rows digest stands =
    let s = c.args.self.now in
    let m = c.settle.new.self in
    let n = c.keep_settled.new.self in
    let begun = c.in-Ok.ensures.begins basis state stands in
    let all = c.keep_settled.ensures.keeps basis begun.0 (digest ∙ ap g.R.Reporter.digest_of (sym c.settle.ensures.setting.reporter)) (rows_tell basis (g.R.Reporter.row_of s.reporter.now) rows (g.met.R.Reporter.tells s.reporter.now)) begun.2 in (
      all.0,
      all.1,
      subst (λ (r : Reply). KeepsReports basis state (g.D.Disk.state s.vault.disk.now) r all.0 (g.D.Disk.state n.vault.disk.now)) (sym c.keep_reply.ensures)
          (keeps_settled basis state (g.D.Disk.state s.vault.disk.now) (g.D.Disk.state m.vault.disk.now) (g.D.Disk.state n.vault.disk.now) c.in-Ok.ensures.looks
          (allowed_in stands) begun.0 begun.1 c.keep_settled.result all.0 all.2 all.1.legal
          (allowed_in all.1)),
    )
