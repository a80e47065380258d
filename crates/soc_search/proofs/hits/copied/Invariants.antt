use Rattle.std.proofs.Common.{◌≡◌, map, take}
use Rattle.soc_query.specs.Answers.{columns_of}
use Rattle.soc_search.proofs.hits.copied.Given as goal

abbrev pub invariant-loop-row : goal.invariant-loop-row
invariant-loop-row l = l.hits ≡ map (λ row. columns_of l.query.columns row.now) (take l.row-index l.row-items)
