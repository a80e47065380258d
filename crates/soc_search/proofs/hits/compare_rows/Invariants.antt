use Rattle.std.proofs.Common.{◌≡◌, drop}
use Rattle.soc_query.specs.Answers.{row_order}
use Rattle.soc_search.proofs.hits.compare_rows.Given as goal

-- the fields so far don't tell the rows apart
abbrev pub invariant-loop-sort : goal.invariant-loop-sort
invariant-loop-sort l = row_order (drop l.sort-index l.sorts) l.a l.b ≡ row_order l.sorts l.a l.b
