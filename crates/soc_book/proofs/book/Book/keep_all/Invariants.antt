use Rattle.std.proofs.Common.{◌≡◌, ◌-◌, ◌≤◌, List, Some, None, length}
use Rattle.soc_book.proofs.Words.{Basis, RowsTell, Change, Kept, settled, SameSetting, StandsFor, disk_of, KeptSoFar, with_all}
use Rattle.soc_book.proofs.book.Book.keep_all.Given as goal

-- the setting stays, and the book stands for the log with the reports that were kept so far
abbrev pub invariant-loop-number : goal.invariant-loop-number
invariant-loop-number g l =
    let old = l.fn.self in
    let now = l.self in
    record {
      setting : SameSetting old now;
      no_doubt : now.vault.journal.doubt ≡ None;
      crashes : length now.ledger.crashes ≡ length old.ledger.crashes;
      within : l.number ≤ length old.ledger.crashes;
      count : l.kept ≤ l.number;
      keeps : (basis : Basis) (log : List Change) → basis.digest ≡ Some l.digest → RowsTell basis
          → StandsFor basis old (settled log)
          → (reports : List Kept) × StandsFor basis now (settled (with_all log reports))
          × KeptSoFar basis log l.number l.kept reports (disk_of old) (disk_of now);
    }

abbrev pub decreases-loop-number : goal.decreases-loop-number
decreases-loop-number g l = length l.fn.self.ledger.crashes - l.number
