use Rattle.soc_book.proofs.Words.{withdraw}
use Rattle.soc_book.proofs.Asking.{withdraw_legal, withdraw_refused, withdraw_writes}
use Rattle.soc_book.proofs.book.Book.withdraw_settled.Goals as goal

pub returns-in-Err-clause-decided : goal.returns-in-Err-clause-decided
returns-in-Err-clause-decided g c basis log stands =
    let s = c.args.self.now in
    withdraw_refused stands c.args.caller.now c.args.id (g.met.D.Disk.sound s.vault.disk.now) c.requires.permitted c.in-Err.refusal c.in-Err.ensures

pub returns-clause-decided : goal.returns-clause-decided
returns-clause-decided g c basis log stands =
    let wrote = c.write.ensures.writes basis log (withdraw c.args.id) stands c.in-Ok.ensures.0.id_is
    (withdraw_legal stands c.args.id c.in-Ok.number c.in-Ok.ensures.0) (λ is_told. c.requires.entry) in
    (wrote.0, wrote.1, withdraw_writes stands c.args.caller.now c.args.id c.in-Ok.number c.in-Ok.ensures.0 c.in-Ok.ensures.1 (g.D.Disk.state c.write.new.self.vault.disk.now) c.write.result wrote.0 c.requires.permitted wrote.2)
