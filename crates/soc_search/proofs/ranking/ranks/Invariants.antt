use Rattle.std.proofs.Common.{◌≡◌, length}
use Rattle.soc_search.proofs.RankLemmas.{RanksFrom}
use Rattle.soc_search.proofs.ranking.ranks.Given as goal

abbrev pub invariant-loop-i : goal.invariant-loop-i
invariant-loop-i l = (length l.ranks.items ≡ l.signatures) × RanksFrom l.ranking l.i l.ranks.items
