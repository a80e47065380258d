use Rattle.std.proofs.Common.{◌≡◌, ◌≤◌, take, count_by}
use Rattle.soc_search.proofs.RowLemmas.{stands_in}
use Rattle.soc_search.proofs.ranking.count_among.Given as goal

abbrev pub invariant-loop-place : goal.invariant-loop-place
invariant-loop-place l =
    (l.count ≡ count_by (stands_in l.rising) (take l.place-index l.places)) × (l.count ≤ l.place-index)
