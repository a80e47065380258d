use denote.Ref.{Bor}
use Rattle.std.proofs.Common.{rules, Bool, ap, ◌∙◌}
use Rattle.std.specs.Ordering.{is_lt}
use Rattle.std.proofs.lemmas.List.Sorted.{ranks_by}
use Rattle.std.proofs.lemmas.Fn.{always_returns_same}
use Rattle.soc_query.specs.declared.answer.Term.{Term}
use Rattle.soc_schema.specs.Orders.{in_order}
use Rattle.soc_search.proofs.SortLemmas.{sorted_by}
use Rattle.soc_serve.specs.inner.Storm.{by_value}
use Rattle.soc_serve.proofs.Signatures.{term_total}
use Rattle.soc_serve.proofs.summary.sorted_terms.Goals as goal

pub returns : goal.returns
returns c =
    let seen : Bor Term → Term = λ term. term.now in
    let lt : Bor Term → Bor Term → Bool = λ x y. is_lt (by_value x.now y.now) in
    sorted_by seen by_value term_total c.in_ok-sorted.sorted.items c.sort_by.new.self.items
    (c.in_ok-sort_by.ensures.sorted lt (ranks_by term_total seen) (always_returns_same _ _ _ (λ a r k h. (search rules, search rules))))
    (c.in_ok-sort_by.ensures.stable lt (ranks_by term_total seen) (always_returns_same _ _ _ (λ a r k h. (search rules, search rules))))
    ∙ ap (in_order by_value) c.in_ok-sorted.ensures
