use Rattle.soc_book.proofs.Words.{Looks-none}
use Rattle.soc_book.proofs.Turnings.{turn_forbidden}
use Rattle.soc_book.proofs.book.Book.turn_by.Goals as goal

pub returns-in-Ok-clause-does : goal.returns-in-Ok-clause-does
returns-in-Ok-clause-does g c = λ basis state row stands. c.turn.ensures.does c.args.caller.now c.in-Ok.ensures basis state row stands

pub returns-in-Err-clause-does : goal.returns-in-Err-clause-does
returns-in-Err-clause-does g c = λ basis state row stands.
    (state, stands, rw c.in-Err.ensures.1 (turn_forbidden stands _ (Looks-none _ (g.met.D.Disk.sound c.args.self.now.vault.disk.now)) c.args.caller.now c.in-Err.ensures.0))
