use Rattle.std.proofs.Common.{rules, Bool, List}
use Rattle.std.specs.Ordering.{is_lt}
use Rattle.std.proofs.lemmas.List.Sorted.{ranks_by}
use Rattle.std.proofs.lemmas.Fn.{always_returns_same}
use denote.Ref.{Bor}
use Rattle.soc_schema.specs.declared.value.Cell.{Cell}
use Rattle.soc_query.specs.Answers.{row_order}
use Rattle.soc_search.proofs.SortLemmas.{sorted_by}
use Rattle.soc_search.proofs.OrderLemmas.{rows_total}
use Rattle.soc_search.proofs.hits.sort_rows.Goals as goal

pub returns : goal.returns
returns c =
    let seen : Bor (List Cell) → List Cell = λ row. row.now in
    let lt : Bor (List Cell) → Bor (List Cell) → Bool = λ x y. is_lt (row_order c.args.sorts.now x.now y.now) in
    sorted_by seen (row_order c.args.sorts.now) (rows_total c.args.sorts.now) c.args.rows.now.items c.sort_by.new.self.items
    (c.in_ok-sort_by.ensures.sorted lt (ranks_by (rows_total c.args.sorts.now) seen) (always_returns_same _ _ _ (λ a r k h. (search rules, search rules))))
    (c.in_ok-sort_by.ensures.stable lt (ranks_by (rows_total c.args.sorts.now) seen) (always_returns_same _ _ _ (λ a r k h. (search rules, search rules))))
