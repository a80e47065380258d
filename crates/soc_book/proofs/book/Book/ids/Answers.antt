use Rattle.std.proofs.Common.{rules, Bool, List, ℕ, ap, ◌∙◌}
use Rattle.std.specs.Cmp.Lexicographic.{slice_cmp, nat_list_cmp_total}
use Rattle.std.specs.Ordering.{nat_cmp, is_lt}
use Rattle.std.proofs.lemmas.List.Sorted.{answers_always, ranks_by}
use Rattle.soc_search.proofs.SortLemmas.{stable_is}
use Rattle.soc_ledger.specs.Events.{held_ids}
use Rattle.soc_book.specs.Ids.{in_id_order}
use Rattle.soc_book.proofs.book.Book.ids.Goals as goal

pub returns-clause-ids : goal.returns-clause-ids
returns-clause-ids g c =
    let lt : List ℕ → List ℕ → Bool = λ x y. is_lt (slice_cmp nat_cmp x y) in
    stable_is (slice_cmp nat_cmp) nat_list_cmp_total c.in_ok-ids.ids.items c.sort_by.new.self.items
    (c.in_ok-sort_by.ensures.sorted lt (ranks_by nat_list_cmp_total (λ x. x)) (answers_always _ _ _ (λ f a r k h. search rules)))
    (c.in_ok-sort_by.ensures.stable lt (ranks_by nat_list_cmp_total (λ x. x)) (answers_always _ _ _ (λ f a r k h. search rules)))
    ∙ ap in_id_order c.in_ok-ids.ensures

pub returns-clause-of_log : goal.returns-clause-of_log
returns-clause-of_log g c = λ basis state stands. returns-clause-ids g c ∙ ap (λ log. in_id_order (held_ids log)) stands.holds.events_are
