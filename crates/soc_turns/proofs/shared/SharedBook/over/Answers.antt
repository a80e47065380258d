use Rattle.std.proofs.Common.{subst, sym}
use Rattle.soc_book.specs.Books.{StandsFor}
use Rattle.soc_turns.proofs.Sharing.{over_stands}
use Rattle.soc_turns.proofs.shared.SharedBook.over.Goals as goal

pub new-requires : goal.new-requires
new-requires g c =
    let e = c.over.ensures in
    over_stands g.D.Telling.tells (g.D.Disk.state c.args.opened.value) (g.D.Disk.state c.args.disk.now) c.over.result
    e.reporter e.limits e.stands (g.met.D.Telling.steady c.args.opened.value) c.requires.opens

pub returns-clause-stands : goal.returns-clause-stands
returns-clause-stands g c basis state stands = subst (λ b. StandsFor basis b state) (sym c.new.ensures.book) (c.over.ensures.stands basis state stands)
