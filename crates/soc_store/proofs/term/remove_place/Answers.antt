use Rattle.std.proofs.Common.{◌∙◌, Ok, Err, ⊎_elim, ap, sym, subst, arith, ◌<◌, ◌≤◌, ◌≢◌, ℕ, length, get_or}
use Rattle.std.proofs.lemmas.Bool.{cases_lt}
use Rattle.std.proofs.lemmas.List.Sorted.{searched}
use Rattle.soc_store.specs.inner.Postings.{PlacesInOrder, without_place}
use Rattle.soc_store.proofs.PlaceLemmas.{without_place-remove, without_place-none, places_rise}
use Rattle.soc_store.proofs.term.remove_place.Goals as goal

pub returns-in-Ok : goal.returns-in-Ok
returns-in-Ok c =
    let order = subst PlacesInOrder (sym c.as_slice.ensures) c.requires in
    let found = searched c.as_slice.result.now c.args.place (Ok c.in-Ok.i) c.in-Ok.ensures.position (λ i j. places_rise c.as_slice.result.now i j order) in
    c.remove.ensures.items ∙ ap (λ l. Rattle.std.specs.List.remove l c.in-Ok.i) (sym c.as_slice.ensures)
    ∙ without_place-remove c.as_slice.result.now c.args.place c.in-Ok.i order found.0 found.1 ∙ ap (without_place c.args.place) c.as_slice.ensures

pub returns-in_default : goal.returns-in_default
returns-in_default c =
    let order = subst PlacesInOrder (sym c.as_slice.ensures) c.requires in
    let missing = searched c.as_slice.result.now c.args.place (Err c.in_default.field-0) c.in_default.ensures.position (λ i j. places_rise c.as_slice.result.now i j order) in
    let other : (k : ℕ) → k < length c.as_slice.result.now → get_or c.as_slice.result.now k 0 ≢ c.args.place = λ k lt e. ⊎_elim (λ (h : k < c.in_default.field-0). let less = missing.1 k h in absurd (omega arith)) (λ (h : c.in_default.field-0 ≤ k). let more = missing.2 k h lt in absurd (omega arith)) (cases_lt k c.in_default.field-0) in
    sym c.as_slice.ensures ∙ without_place-none c.as_slice.result.now c.args.place other ∙ ap (without_place c.args.place) c.as_slice.ensures
