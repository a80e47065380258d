use Rattle.std.proofs.Common.{◌∙◌, ap, map}
use denote.Ref.{Bor}
use Rattle.std.specs.Prelude.{◌&&◌}
use Rattle.soc_schema.specs.Rows.{value_of}
use Rattle.soc_query.specs.declared.condition.Condition.{Condition}
use Rattle.soc_search.specs.inner.Places.{has}
use Rattle.soc_search.specs.inner.Selections.{are_met}
use Rattle.soc_search.proofs.SelectionLemmas.{inn, listed_found, places_met}
use Rattle.soc_search.proofs.selection.tested.Goals as goal

pub returns : goal.returns
returns c = λ test are.
    let f = c.args.field in
    let asked = map (λ (d : Bor Condition). d.now) c.args.asked.now in
    let rows = c.args.store.now in
    let left = places_met (are_met asked) f test rows c.args.places.now c.in_ok-left.left.items c.places_rise.ensures.rise are c.in_ok-left.ensures in
    listed_found (has c.in_ok-of.field-0) (λ row. test row && are_met asked (value_of row f)) rows c.in_ok-left.left.items c.places_rise.ensures.rise left (λ p. c.in_ok-of.ensures p ∙ ap (inn p) c.as_slice.ensures.value)
