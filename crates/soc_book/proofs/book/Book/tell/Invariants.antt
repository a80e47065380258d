use Rattle.std.proofs.Common.{◌≡◌, ◌+◌, ◌++◌, ◌≤◌, length, map}
use Rattle.soc_book.proofs.Words.{vec_capacity, vec_len, receipt_of}
use Rattle.soc_book.proofs.book.Book.tell.Given as goal

abbrev pub invariant-loop-id : goal.invariant-loop-id
invariant-loop-id g l = record {
  told : l.receipts.items ++ map (receipt_of l.front l.stopped l.written) l.rest ≡ l.initial.receipts.items ++ map (receipt_of l.front l.stopped l.written) l.ids;
  count : vec_len l.receipts + length l.rest ≡ vec_len l.initial.receipts + length l.ids;
  capacity : vec_capacity l.initial.receipts ≤ vec_capacity l.receipts;
}

abbrev pub decreases-loop-id : goal.decreases-loop-id
decreases-loop-id g l = length l.rest
