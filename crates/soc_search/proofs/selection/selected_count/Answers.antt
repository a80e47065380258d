use Rattle.std.proofs.Common.{◌∙◌, ap, length, filter}
use Rattle.std.proofs.lemmas.List.{length-map}
use Rattle.soc_search.specs.inner.Selections.{selected}
use Rattle.soc_search.proofs.SelectionLemmas.{listed_are}
use Rattle.soc_search.proofs.selection.selected_count.Goals as goal

pub returns-in-Some : goal.returns-in-Some
returns-in-Some c =
    let set = selected c.args.found.now.set in
    let rows = c.args.store.now in
    ap length (c.as_slice.ensures.value ∙ listed_are set rows c.args.found.now.places c.in-Some.places c.in-Some.is c.requires)
    ∙ length-map (filter (λ s. set s.0) rows) (λ s. s.0)
