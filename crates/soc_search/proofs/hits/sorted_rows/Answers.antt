use Rattle.std.proofs.Common.{◌∙◌, ap}
use Rattle.std.specs.List.{filter_map}
use Rattle.soc_schema.specs.Orders.{in_order}
use Rattle.soc_query.specs.Answers.{row_order}
use Rattle.soc_search.specs.inner.Selections.{row_of}
use Rattle.soc_search.proofs.HitLemmas.{rows_found}
use Rattle.soc_search.proofs.hits.sorted_rows.Goals as goal

pub returns-clause-rows : goal.returns-clause-rows
returns-clause-rows g c =
    λ test are.
    let store = c.args.store.now in
    c.in_ok-sort_rows.ensures ∙ ap (in_order (row_order c.args.sorts.now))
    (c.in_ok-rows.ensures.rows ∙ ap (filter_map (row_of store)) are ∙ rows_found store test c.places_rise.ensures.rise)
