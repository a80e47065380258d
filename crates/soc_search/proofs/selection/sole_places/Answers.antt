use Rattle.std.proofs.Common.{◌∙◌, ap, filter}
use Rattle.soc_schema.specs.Rows.{value_of}
use Rattle.soc_search.specs.inner.Selections.{selected}
use Rattle.soc_search.proofs.SelectionLemmas.{sole_rows}
use Rattle.soc_search.proofs.selection.sole_places.Goals as goal

pub returns : goal.returns
returns c = λ test selects each.
    let f = c.args.field in
    let set = selected c.args.set.now in
    c.in_ok-chosen_among.ensures ∙ ap (filter set) c.places.ensures
    ∙ sole_rows set test f c.in-Some.value.now c.args.store.now selects (λ row takes. c.in-Some.ensures (value_of row f) (each row takes))
