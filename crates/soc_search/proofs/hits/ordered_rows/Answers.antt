use Rattle.std.proofs.Common.{◌≡◌, ◌∙◌, ap, arith, length, map, filter}
use Rattle.std.proofs.lemmas.List.{length-map}
use Rattle.soc_search.specs.inner.Selections.{selected}
use Rattle.soc_search.proofs.SelectionLemmas.{listed_are}
use Rattle.soc_search.proofs.hits.ordered_rows.Goals as goal

pub returns-in-Some-clause-rows : goal.returns-in-Some-clause-rows
returns-in-Some-clause-rows g c =
    let set = selected c.args.found.now.set in
    c.sorted_rows.ensures.rows (λ s. set s.0) (c.as_slice.ensures.value ∙ listed_are set c.args.store.now c.args.found.now.places c.in-Some.places c.in-Some.is c.requires)

pub returns-in-Some-clause-few : goal.returns-in-Some-clause-few
returns-in-Some-clause-few g c =
    let set = selected c.args.found.now.set in
    let rows = filter (λ s. set s.0) c.args.store.now in
    let are : c.as_slice.result.now ≡ map (λ s. s.0) rows = c.as_slice.ensures.value ∙ listed_are set c.args.store.now c.args.found.now.places c.in-Some.places c.in-Some.is c.requires in
    omega (arith, c.sorted_rows.ensures.few, ap length are, length-map rows (λ s. s.0))

pub returns-in_ok-places-in-None-clause-rows : goal.returns-in_ok-places-in-None-clause-rows
returns-in_ok-places-in-None-clause-rows g c =
    let set = selected c.args.found.now.set in
    c.sorted_rows-in-None.ensures.rows (λ s. set s.0) (c.as_slice-in-None.ensures.value ∙ c.in_ok-places-in-None.ensures.places)

pub returns-in_ok-places-in-None-clause-few : goal.returns-in_ok-places-in-None-clause-few
returns-in_ok-places-in-None-clause-few g c =
    let rows = filter (λ s. selected c.args.found.now.set s.0) c.args.store.now in
    let are : c.as_slice-in-None.result.now ≡ map (λ s. s.0) rows = c.as_slice-in-None.ensures.value ∙ c.in_ok-places-in-None.ensures.places in
    omega (arith, c.sorted_rows-in-None.ensures.few, ap length are, length-map rows (λ s. s.0))
