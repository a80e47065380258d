use Rattle.soc_book.proofs.Asking.{priority_asks, priority_passes, priority_refused}
use Rattle.soc_book.proofs.book.Book.prioritise_settled.Goals as goal

pub returns-in-Err-clause-decided : goal.returns-in-Err-clause-decided
returns-in-Err-clause-decided g c basis log stands =
    let s = c.args.self.now in
    priority_refused stands c.args.caller.now c.args.id (g.met.D.Disk.sound s.vault.disk.now) c.in-Err.refusal c.in-Err.ensures

pub returns-then-is_due_or_reported-clause-decided : goal.returns-then-is_due_or_reported-clause-decided
returns-then-is_due_or_reported-clause-decided g c basis log stands =
    let s = c.args.self.now in
    (_, stands, priority_passes stands c.args.caller.now c.args.id c.in-Ok.number c.in-Ok.ensures.0 c.in-Ok.ensures.1 (g.met.D.Disk.sound s.vault.disk.now) c.if-is_due_or_reported.ensures)

pub returns-clause-decided : goal.returns-clause-decided
returns-clause-decided g c basis log stands =
    let wrote = c.ask_for.ensures.writes basis log stands in
    (wrote.0, wrote.1, priority_asks stands c.args.caller.now c.args.id c.in-Ok.number c.in-Ok.ensures.0 c.in-Ok.ensures.1 (g.D.Disk.state c.ask_for.new.self.vault.disk.now) c.ask_for.result wrote.0 c.if-is_due_or_reported.ensures wrote.2)
