use Rattle.std.proofs.Common.{◌≡◌, ◌⊎◌, ◌+◌, ◌-◌, ◌<◌, ◌≤◌, List, [], Some, length}
use Rattle.soc_book.proofs.Words.{Basis, RowsTell, Change, Kept, settled, StandsFor, HasGathered, IsBatch}
use Rattle.soc_book.proofs.book.Book.next_batch.Given as goal

abbrev pub invariant-loop-batch : goal.invariant-loop-batch
invariant-loop-batch g l =
    let s = l.fn.self in
    record {
      batch : IsBatch s.ledger s.vault.journal l.batch;
      begun : ((l.batch.next ≡ l.fn.from) × (l.batch.numbers.items ≡ []) × (l.batch.bytes ≡ 0)) ⊎ (l.fn.from < l.batch.next);
      few : l.fn.from + length l.batch.numbers.items ≤ l.batch.next;
      within : l.batch.next ≤ length s.ledger.crashes;
      gathered : (basis : Basis) (log : List Change) → basis.digest ≡ Some l.digest → RowsTell basis
          → StandsFor basis s (settled log)
          → (reports : List Kept) × HasGathered basis log s.ledger l.fn.from l.batch.next l.batch.numbers.items l.batch.entries.items reports;
    }

abbrev pub decreases-loop-batch : goal.decreases-loop-batch
decreases-loop-batch g l = length l.fn.self.ledger.crashes - l.batch.next
