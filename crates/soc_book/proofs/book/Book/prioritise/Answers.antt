use Rattle.std.proofs.Common.{refl}
use Rattle.soc_book.proofs.Words.{StandsFor}
use Rattle.soc_book.proofs.Deciding.{begun_does, doesnt_begin, writes_priority}
use Rattle.soc_book.proofs.book.Book.prioritise.Goals as goal

pub returns-in-Err-clause-does : goal.returns-in-Err-clause-does
returns-in-Err-clause-does g c basis state stands =
    doesnt_begin (writes_priority basis c.args.caller.now c.args.id) stands c.begin.ensures.looks (StandsFor basis c.begin.new.self) c.in-Err.refusal refl (c.in-Err.ensures.begins basis state stands)

pub returns-in-Ok-clause-does : goal.returns-in-Ok-clause-does
returns-in-Ok-clause-does g c basis state stands =
    begun_does (writes_priority basis c.args.caller.now c.args.id) stands c.begin.ensures.looks (StandsFor basis c.begin.new.self) refl (c.in-Ok.ensures.begins basis state stands)
    (StandsFor basis c.prioritise_settled.new.self) (c.prioritise_settled.ensures.decided basis)
