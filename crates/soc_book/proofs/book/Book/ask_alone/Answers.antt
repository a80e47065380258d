use Rattle.soc_book.proofs.Words.{allows_others, command_of}
use Rattle.soc_book.proofs.Joinings.{way_then_alone}
use Rattle.soc_book.proofs.book.Book.ask_alone.Goals as goal

pub ask_prepared-receipt-requires : goal.ask_prepared-receipt-requires
ask_prepared-receipt-requires g c = allows_others c.store_all.new.self (command_of c.args.work) c.requires.nothing

pub returns-clause-goes_on : goal.returns-clause-goes_on
returns-clause-goes_on g c before commands way =
    way_then_alone commands (c.store_all.ensures.goes_on before commands way) c.ask_prepared-receipt.ensures.setting (command_of c.args.work) c.ask_prepared-receipt.result c.ask_prepared-receipt.ensures.asks c.store_all.ensures.empty
    c.push.new.self.items (rw c.unwrap.ensures at c.push.ensures.items)
