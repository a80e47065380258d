use Rattle.std.proofs.Common.{◌≡◌, ap, map, subst, sym, true, IfOk, Bool, List}
use Rattle.std.specs.Prelude.{is_none}
use Rattle.soc_schema.specs.declared.value.Cell.{Cell}
use Rattle.soc_schema.specs.Rows.{value_of}
use Rattle.soc_search.specs.inner.Selections.{Finds, selected}
use Rattle.soc_search.proofs.AnswerLemmas.{selected_rows}
use Rattle.soc_search.proofs.FieldLemmas.{and_all}
use Rattle.soc_search.proofs.SelectionLemmas.{finds_same}
use Rattle.soc_search.proofs.WalkLemmas.{every_row}
use Rattle.soc_search.proofs.walk.places_without.Goals as goal

pub returns : goal.returns
returns c =
    let rows = c.args.store.now in
    let found = c.in_ok-found.found in
    let lacks : List Cell → Bool = λ row. is_none (value_of row c.args.field) in
    let finds : Finds found lacks rows = finds_same found _ lacks rows (λ row. sym (and_all (lacks row))) (c.in_ok-found.ensures (λ _. true) (every_row rows, tt)) in
    subst (λ l. IfOk c.matching_places.result (λ places. places.items ≡ l)) (ap (map (λ s. s.0)) (selected_rows (selected found.set) lacks rows finds.0)) c.matching_places.ensures.places
