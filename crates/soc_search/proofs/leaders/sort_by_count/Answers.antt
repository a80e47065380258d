use Rattle.std.proofs.Common.{rules, Bool}
use Rattle.std.specs.Ordering.{nat_cmp, is_lt}
use Rattle.std.proofs.lemmas.List.Sorted.{answers_always, ranks_by}
use Rattle.soc_search.specs.declared.leaders.Counted.{Counted}
use Rattle.soc_search.specs.inner.Selections.{as_term}
use Rattle.soc_search.proofs.SortLemmas.{sorted_by}
use Rattle.soc_search.proofs.FacetLemmas.{counts_fall}
use Rattle.soc_search.proofs.leaders.sort_by_count.Goals as goal

pub returns-clause-ok : goal.returns-clause-ok
returns-clause-ok c =
    let lt : Counted → Counted → Bool = λ x y. is_lt (nat_cmp y.count x.count) in
    sorted_by as_term (λ t u. nat_cmp u.count t.count) counts_fall c.args.counted.now.items c.sort_by.new.self.items
    (c.in_ok-sort_by.ensures.sorted lt (ranks_by counts_fall as_term) (answers_always _ _ _ (λ f a r k h. search rules)))
    (c.in_ok-sort_by.ensures.stable lt (ranks_by counts_fall as_term) (answers_always _ _ _ (λ f a r k h. search rules)))
