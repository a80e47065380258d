use Rattle.soc_book.proofs.Words.{Looks-none}
use Rattle.soc_book.proofs.Searches.{found, rows_tell, search_kind}
use Rattle.soc_book.proofs.book.Book.search.Goals as goal

pub returns-in-Ok-clause-does : goal.returns-in-Ok-clause-does
returns-in-Ok-clause-does g c = λ basis state rows stands. (
  state,
  stands,
  found stands _ (Looks-none _ (g.met.D.Disk.sound c.args.self.now.vault.disk.now)) c.args.query.now c.in-Ok.answer (rows_tell basis _ rows (g.met.R.Reporter.tells c.args.self.now.reporter.now))
      c.caller-caller.ensures.granted c.answers_by_what_is_seen.ensures c.answers_in_any_order.ensures c.in-Ok.ensures,
)

pub returns-in-Ok-clause-kind : goal.returns-in-Ok-clause-kind
returns-in-Ok-clause-kind g c = search_kind c.args.query.now c.in-Ok.answer c.args.self.now.store c.caller-caller.ensures.granted c.in-Ok.ensures
