use Rattle.std.proofs.Common.{◌≡◌, ◌∙◌, ap, sym, count_by, subst, length, filter, Option}
use Rattle.std.specs.Prelude.{not, slice_get, IfSome}
use Rattle.soc_schema.specs.declared.value.Value.{Value}
use Rattle.soc_schema.specs.Values.{rows_with, values_of}
use Rattle.soc_store.specs.Stored.{places_of}
use Rattle.soc_search.specs.inner.Selections.{selected}
use Rattle.soc_search.proofs.FacetLemmas.{count_selected, count_whole, some_counted}
use Rattle.soc_search.proofs.facet.count_at.Goals as goal

pub returns : goal.returns
returns c =
    let set = selected c.args.set.now in
    let rows = c.args.store.now in
    let f = c.args.field in
    let P : Option Value → Type 0 = λ o. IfSome o (λ v. c.count_of.result ≡ length (rows_with f v (filter (λ s. set s.0) rows))) in
    subst P (sym c.term_near.ensures.value) (c.count_of.ensures ∙ ap (count_by set) c.term_near.ensures.places ∙ count_selected set f c.term_near.result.0.now rows)

pub returns-then-is_none : goal.returns-then-is_none
returns-then-is_none c =
    let f = c.args.field in
    let rows = c.args.store.now in
    let n = c.count_near.result in
    some_counted (slice_get (values_of f rows) c.args.i) (λ v. n ≡ length (places_of f v rows)) (λ v. n ≡ length (rows_with f v (filter (λ s. selected c.args.set.now s.0) rows)))
    (λ v is. count_whole c.args.set.now f v rows n (ap not (c.is_none.ensures ∙ ap not c.if-is_none.true)) is) c.count_near.ensures
