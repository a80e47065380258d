use Rattle.soc_report.specs.inner.Known.{known_view}
use Rattle.soc_report.proofs.RowLemmas.{SoFar}
use Rattle.soc_report.proofs.row.row_of.Given as goal

-- the row so far and the cells of the values that are left make the whole
abbrev pub invariant-loop-place : goal.invariant-loop-place
invariant-loop-place l = SoFar (known_view l.known) l.place l.row
