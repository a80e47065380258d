use Rattle.soc_search.proofs.RankLemmas.{Numbers}
use Rattle.soc_search.proofs.ranking.counted.Given as goal

abbrev pub invariant-loop-index : goal.invariant-loop-index
invariant-loop-index l = Numbers l.counts l.index l.ranking.items
