use Rattle.std.proofs.Common.{length}
use Rattle.soc_book.proofs.Standing.{IsAdding}
use Rattle.soc_book.proofs.writes.push_reports.Given as goal

abbrev pub invariant-loop-number : goal.invariant-loop-number
invariant-loop-number l = IsAdding l.initial.ledger l.numbers l.ledger l.rest

abbrev pub decreases-loop-number : goal.decreases-loop-number
decreases-loop-number l = length l.rest
