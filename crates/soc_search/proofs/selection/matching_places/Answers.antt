use Rattle.std.proofs.Common.{◌∙◌, ap, sym, cond, ◌∷◌, [], ◌++◌, append-nil}
use Rattle.soc_search.specs.inner.Selections.{selected}
use Rattle.soc_search.proofs.SelectionLemmas.{place_more}
use Rattle.soc_search.proofs.selection.matching_places.Goals as goal
use Rattle.soc_search.proofs.selection.matching_places.Goals.{then-is_selected+in_ok-push, else-is_selected}

pub loop-i-preserved : goal.loop-i-preserved
loop-i-preserved c =
    let p = c.place_at-place.result in
    let done = c.loop-i.places.items in
    elim c.if-is_selected.branch [
      | then-is_selected+in_ok-push w ↦ place_more (selected c.args.set.now) c.args.store.now c.loop-i.i p done c.if-is_selected.places.items c.place_at-place.ensures c.loop-i.invariant
          (ap (λ v. v.items) w.places-is ∙ w.in_ok-push.ensures.items ∙ ap (λ b. done ++ cond b (p ∷ []) []) (sym w.if-is_selected.true ∙ c.is_selected.ensures))
      | else-is_selected w ↦ place_more (selected c.args.set.now) c.args.store.now c.loop-i.i p done c.if-is_selected.places.items c.place_at-place.ensures c.loop-i.invariant
          (ap (λ v. v.items) w.places-is ∙ sym (append-nil done) ∙ ap (λ b. done ++ cond b (p ∷ []) []) (sym w.if-is_selected.false ∙ c.is_selected.ensures))
    ]
