use Rattle.std.proofs.Common.{Ok, Err}
use Rattle.soc_book.proofs.Turnings.{turn_does}
use Rattle.soc_book.proofs.book.Book.turn.Goals as goal

pub returns-in-Ok-clause-does : goal.returns-in-Ok-clause-does
returns-in-Ok-clause-does g c = λ caller may basis state row stands.
    let t = c.in-Ok.ensures.turns basis state row stands in
    (t.0, t.1, turn_does stands _ c.in-Ok.ensures.looks caller may (Ok c.in-Ok.processed) t.0 t.2)

pub returns-in-Err-clause-does : goal.returns-in-Err-clause-does
returns-in-Err-clause-does g c = λ caller may basis state row stands.
    let t = c.in-Err.ensures.turns basis state row stands in
    (t.0, t.1, turn_does stands _ c.in-Err.ensures.looks caller may (Err c.in-Err.refusal) t.0 t.2)
