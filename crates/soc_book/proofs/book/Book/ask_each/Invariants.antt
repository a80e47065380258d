use Rattle.std.proofs.Common.{◌≡◌, ◌+◌, ◌++◌, ◌≤◌, length}
use Rattle.soc_book.proofs.Words.{vec_capacity, vec_len, IsUnderWay, MayStore}
use Rattle.soc_book.proofs.book.Book.ask_each.Given as goal

abbrev pub invariant-loop-prepared : goal.invariant-loop-prepared
invariant-loop-prepared g l = record {
  can_next : (goal.iterator-loop-prepared g).can_next l.prepared-iterator;
  is_finite : (goal.iterator-loop-prepared g).is_finite l.prepared-iterator;
  all : l.yielded ++ l.prepared-iterator.rest.items ≡ l.fn.commands.items;
  may : MayStore l.self.ledger l.self.vault.journal l.self.limits l.batch;
  count : vec_len l.receipts + length l.batch.ids.items ≡ length l.yielded;
  capacity : vec_capacity l.initial.receipts ≤ vec_capacity l.receipts;
  way : IsUnderWay l.initial.self l.yielded l.receipts.items l.self l.batch;
}
