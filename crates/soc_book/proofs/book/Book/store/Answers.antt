use Rattle.std.proofs.Common.{ℕ, List, ◌++◌, length, map, ◌∙◌, ap}
use Rattle.soc_book.proofs.Words.{has_stop, receipt_of}
use Rattle.soc_book.proofs.Joinings.{stores_book}
use Rattle.soc_book.proofs.book.Book.store.Goals as goal

pub returns-clause-stores : goal.returns-clause-stores
returns-clause-stores g c =
    let later = c.append-written.new.self in
    let receipts = c.args.receipts.now.items in
    let e = c.append-written.ensures in
    stores_book c.args.self.now later c.args.batch receipts c.tell.new.receipts.items c.append-written.result c.requires.may c.requires.some
    (c.tell.ensures.receipts ∙ ap (λ (xs : List (List ℕ)). receipts ++ map (receipt_of (length later.ledger.log) (has_stop later.ledger.log) c.append-written.result) xs) c.as_slice-2.ensures.value) c.tell.ensures.short
    c.as_slice.result.now c.as_slice.ensures.value e.full e.appended
