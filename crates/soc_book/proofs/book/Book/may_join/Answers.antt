use Rattle.soc_book.proofs.Quiets.{stands_roomy}
use Rattle.soc_book.proofs.book.Book.may_join.Goals as goal

pub returns-in-Ok-clause-stands : goal.returns-in-Ok-clause-stands
returns-in-Ok-clause-stands g c basis state stands = stands_roomy c.in-Ok.ensures.0 stands
