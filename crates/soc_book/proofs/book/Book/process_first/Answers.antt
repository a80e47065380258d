use Rattle.soc_book.proofs.Words.{id_of}
use Rattle.soc_book.proofs.Turnings.{listed_due}
use Rattle.soc_book.proofs.book.Book.process_first.Goals as goal

pub put_row-requires-clause-due : goal.put_row-requires-clause-due
put_row-requires-clause-due g c =
    rw c.in_ok-raw.ensures.ledger (listed_due c.args.self.now.ledger.log 0 (id_of c.args.self.now.ledger c.due_at-number.result) c.due_at-number.ensures.due)
