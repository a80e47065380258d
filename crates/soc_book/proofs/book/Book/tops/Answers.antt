use Rattle.soc_book.proofs.Words.{Looks-none}
use Rattle.soc_book.proofs.Searches.{rows_tell, tops_found}
use Rattle.soc_book.proofs.book.Book.tops.Goals as goal

pub returns-in-Ok-clause-does : goal.returns-in-Ok-clause-does
returns-in-Ok-clause-does g c = λ basis state rows stands. (
  state,
  stands,
  tops_found stands _ (Looks-none _ (g.met.D.Disk.sound c.args.self.now.vault.disk.now)) c.args.query.now c.in-Ok.tops (rows_tell basis _ rows (g.met.R.Reporter.tells c.args.self.now.reporter.now))
      c.tops_by_what_is_seen.ensures c.tops_in_any_order.ensures c.in-Ok.ensures,
)
