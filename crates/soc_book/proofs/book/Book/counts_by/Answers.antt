use Rattle.soc_book.proofs.Words.{Looks-none}
use Rattle.soc_book.proofs.Countings.{counted, counts_forbidden}
use Rattle.soc_book.proofs.book.Book.counts_by.Goals as goal

pub returns-in-Err-clause-does : goal.returns-in-Err-clause-does
returns-in-Err-clause-does g c = λ basis state stands.
    (state, stands, rw c.in-Err.ensures.1 (counts_forbidden stands _ (Looks-none _ (g.met.D.Disk.sound c.args.self.now.vault.disk.now)) c.args.caller.now c.in-Err.ensures.0))

pub returns-in-Ok-clause-does : goal.returns-in-Ok-clause-does
returns-in-Ok-clause-does g c = λ basis state stands. (
  state,
  stands,
  counted stands _ (Looks-none _ (g.met.D.Disk.sound c.args.self.now.vault.disk.now)) c.args.caller.now c.counted.result c.in-Ok.ensures
      (c.counted.ensures.of_log basis state stands) (c.counted.ensures.size basis state stands),
)
