use Rattle.soc_book.proofs.Standing.{IsAccepting}
use Rattle.soc_book.proofs.writes.push_new.Given as goal

abbrev pub invariant-loop-new : goal.invariant-loop-new
invariant-loop-new l = record {
  can_next : goal.iterator-loop-new.can_next l.new-iterator;
  is_finite : goal.iterator-loop-new.is_finite l.new-iterator;
  accepting : IsAccepting l.initial.ledger l.fn.crashes.items l.fn.first l.ledger l.new-iterator.rest.items l.place;
}
