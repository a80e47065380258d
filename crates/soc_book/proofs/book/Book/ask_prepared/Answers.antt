use Rattle.soc_book.proofs.Receipts.{asks_of}
use Rattle.soc_book.proofs.book.Book.ask_prepared.Goals as goal

pub returns-clause-asks : goal.returns-clause-asks
returns-clause-asks g c basis state row stands =
    let did = c.reply-reply.ensures.does basis state row stands in
    (did.0, did.1, asks_of (record { front = c.front.result; stopped = c.is_stopped.result; reply = c.reply-reply.result }) did.1 did.2 c.front.ensures.count c.front.ensures.below c.is_stopped.ensures)
