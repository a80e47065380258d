use Rattle.std.proofs.Common.{◌≡◌, take}
use Rattle.soc_book.proofs.HeldIds.{held_of}
use Rattle.soc_book.proofs.Words.{was_withdrawn}
use Rattle.soc_book.proofs.book.Book.held_ids.Given as goal

-- the ids of the crashes so far that weren't withdrawn
abbrev pub invariant-loop-number : goal.invariant-loop-number
invariant-loop-number g l = l.ids.items ≡ held_of (was_withdrawn l.self.ledger.log) (take l.number l.self.ledger.crashes)
