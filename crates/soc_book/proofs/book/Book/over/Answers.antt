use Rattle.soc_book.proofs.Openings.{stands_over}
use Rattle.soc_book.proofs.book.Book.over.Goals as goal

pub returns-clause-stands : goal.returns-clause-stands
returns-clause-stands g c basis state stands = stands_over g.D.Disk.state c.new.ensures.journal c.new.ensures.disk stands
