use Rattle.std.proofs.Common.{Option, IfSome, sym, subst}
use Rattle.soc_book.proofs.Words.{Pending, Fits}
use Rattle.soc_book.proofs.Standing.{room_settled, settle_taken}
use Rattle.soc_book.proofs.book.Book.settle.Goals as goal

pub returns-clause-begins : goal.returns-clause-begins
returns-clause-begins g c basis state stands =
    let s = c.args.self.now in
    settle_taken basis s.limits s.ledger c.push_settled.new.ledger s.store c.push_settled.new.store s.doubt c.take-doubt.result c.take-doubt.new.self s.vault.journal c.settle.new.self.journal
    (g.D.Disk.state s.vault.disk.now) (g.D.Disk.state c.settle.new.self.disk.now) state c.in-Ok.settled s.safe c.in-Ok.ensures.clean.0 c.in-Ok.ensures.place c.in-Ok.ensures.journal c.in-Ok.ensures.settled
    stands c.take-doubt.ensures.value c.take-doubt.ensures.after c.push_settled.ensures

pub returns-clause-room : goal.returns-clause-room
returns-clause-room g c =
    let s = c.args.self.now in
    room_settled s.ledger c.push_settled.new.ledger s.store c.push_settled.new.store c.take-doubt.result c.in-Ok.settled (subst (λ (p : Option Pending). IfSome p (Fits s.ledger)) (sym c.take-doubt.ensures.value) s.safe.fits) c.push_settled.ensures
