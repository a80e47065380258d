use Rattle.std.proofs.Common.{◌≡◌, ◌∙◌, ℕ, ap, sym, map, arith, append-nil, [], ◌∷◌, ◌++◌, List, get_or}
use Rattle.std.proofs.lemmas.List.{map-append, get_or_default}
use Rattle.std.specs.Option.{option_copied, option_to_list}
use denote.Ref.{Bor}
use Rattle.soc_schema.specs.declared.value.Cell.{Cell}
use Rattle.soc_search.specs.inner.Selections.{row_of}
use Rattle.soc_search.proofs.HitLemmas.{found_pushed}
use Rattle.soc_search.proofs.hits.read_rows.Goals as goal
use Rattle.soc_search.proofs.hits.read_rows.Goals.{in-Some+in_ok-push, in_default}

pub loop-place-preserved : goal.loop-place-preserved
loop-place-preserved g c =
    let seen : Bor (List Cell) → List Cell = λ row. row.now in
    let p : ℕ = get_or c.args.places.now c.loop-place.place-index 0 in
    let here : get_or c.args.places.now c.loop-place.place-index p ≡ p = get_or_default c.args.places.now c.loop-place.place-index p 0 c.loop-place-test.true in
    let done : List (List Cell) = map seen c.loop-place.rows.items in
    elim c.match-row.branch [
      | in-Some+in_ok-push w ↦ (
        found_pushed (row_of c.args.store.now) c.args.places.now c.loop-place.place-index p (option_copied c.row.result) done (map seen c.match-row.rows.items) c.loop-place-test.true here c.row.ensures.row c.loop-place.invariant.0
            (ap (λ r. map seen r.items) w.rows-is ∙ ap (map seen) w.in_ok-push.ensures.items ∙ map-append seen c.loop-place.rows.items (w.in-Some.row ∷ []) ∙ ap (λ o. done ++ option_to_list (option_copied o)) (sym w.in-Some.is)),
        omega (arith, c.row.ensures.step, c.loop-place.invariant.1),
      )
      | in_default w ↦ (
        found_pushed (row_of c.args.store.now) c.args.places.now c.loop-place.place-index p (option_copied c.row.result) done (map seen c.match-row.rows.items) c.loop-place-test.true here c.row.ensures.row c.loop-place.invariant.0
            (ap (λ r. map seen r.items) w.rows-is ∙ sym (append-nil done) ∙ ap (λ o. done ++ option_to_list (option_copied o)) (sym w.in_default.is)),
        omega (arith, c.row.ensures.step, c.loop-place.invariant.1),
      )
    ]
