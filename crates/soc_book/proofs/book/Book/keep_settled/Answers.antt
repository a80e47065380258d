use Rattle.std.proofs.Common.{sym, ◌∙◌}
use Rattle.soc_book.proofs.Words.{settled}
use Rattle.soc_book.proofs.Keepings.{nothing_kept}
use Rattle.soc_book.proofs.Standing.{allowed_in}
use Rattle.soc_book.proofs.book.Book.keep_settled.Goals as goal

pub returns-in-Some-clause-keeps : goal.returns-in-Some-clause-keeps
returns-in-Some-clause-keeps g c basis log digest tell stands = c.keep_all.ensures.keeps basis log (digest ∙ (sym c.digest.ensures ∙ c.in-Some.is)) tell stands

pub returns-in-None-clause-keeps : goal.returns-in-None-clause-keeps
returns-in-None-clause-keeps g c basis log digest tell stands =
    let s = c.args.self.now in (
      settled log,
      stands,
      nothing_kept basis log (g.D.Disk.state s.vault.disk.now) (digest ∙ (sym c.digest.ensures ∙ c.in-None.is)) (g.met.D.Disk.sound s.vault.disk.now)
          (allowed_in stands),
    )
