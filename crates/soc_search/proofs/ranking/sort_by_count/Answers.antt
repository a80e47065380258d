use Rattle.std.proofs.Common.{rules, Bool}
use Rattle.std.specs.Ordering.{nat_cmp, is_lt}
use Rattle.std.proofs.lemmas.List.Sorted.{answers_always, ranks_by}
use Rattle.soc_search.specs.declared.ranking.Ranked.{Ranked}
use Rattle.soc_search.proofs.RankLemmas.{by_count, counts_fall}
use Rattle.soc_search.proofs.SortLemmas.{stable_is}
use Rattle.soc_search.proofs.ranking.sort_by_count.Goals as goal

pub returns : goal.returns
returns c =
    let lt : Ranked → Ranked → Bool = λ x y. is_lt (nat_cmp y.count x.count) in
    stable_is by_count counts_fall c.args.ranking.now.items c.sort_by.new.self.items
    (c.in_ok-sort_by.ensures.sorted lt (ranks_by counts_fall (λ r. r)) (answers_always _ _ _ (λ f a r k h. search rules)))
    (c.in_ok-sort_by.ensures.stable lt (ranks_by counts_fall (λ r. r)) (answers_always _ _ _ (λ f a r k h. search rules)))
