use Rattle.std.proofs.Common.{◌∙◌, ap, map}
use Rattle.soc_search.specs.inner.Selections.{selected}
use Rattle.soc_search.proofs.AnswerLemmas.{selected_rows}
use Rattle.soc_search.proofs.SelectionLemmas.{listed_are}
use Rattle.soc_search.proofs.selection.narrowed.Goals as goal

pub returns-in_default : goal.returns-in_default
returns-in_default c = λ test finds. c.passed.ensures test (c.in_ok-found.ensures test finds).0

pub returns-in-Some : goal.returns-in-Some
returns-in-Some c = λ test finds.
    let rows = c.args.store.now in
    let found = c.in_ok-found.found in
    let finds_more = c.in_ok-found.ensures test finds in
    c.tested.ensures test (c.as_slice.ensures.value ∙ listed_are (selected found.set) rows found.places c.in-Some.places c.in-Some.is finds_more.1 ∙ ap (map (λ s. s.0)) (selected_rows (selected found.set) test rows finds_more.0))
