use Rattle.soc_book.proofs.Asking.{reprocess_asks, reprocess_refused}
use Rattle.soc_book.proofs.book.Book.reprocess_settled.Goals as goal

pub returns-in-Err-clause-decided : goal.returns-in-Err-clause-decided
returns-in-Err-clause-decided g c basis log stands =
    let s = c.args.self.now in
    reprocess_refused stands c.args.caller.now c.args.id (g.met.D.Disk.sound s.vault.disk.now) c.requires.permitted c.in-Err.refusal c.in-Err.ensures

pub returns-clause-decided : goal.returns-clause-decided
returns-clause-decided g c basis log stands =
    let wrote = c.ask_for.ensures.writes basis log stands in
    (wrote.0, wrote.1, reprocess_asks stands c.args.caller.now c.args.id c.in-Ok.number c.in-Ok.ensures.0 c.in-Ok.ensures.1 (g.D.Disk.state c.ask_for.new.self.vault.disk.now) c.ask_for.result wrote.0 c.requires.permitted wrote.2)
