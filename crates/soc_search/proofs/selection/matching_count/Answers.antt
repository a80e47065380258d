use Rattle.std.proofs.Common.{◌≡◌, ◌∙◌, ap, sym, arith, cond, ◌∷◌, [], length, filter}
use Rattle.soc_search.specs.inner.Places.{has}
use Rattle.soc_search.specs.inner.Selections.{selected}
use Rattle.soc_search.proofs.SelectionLemmas.{count_more, rows_all}
use Rattle.soc_search.proofs.selection.matching_count.Goals as goal
use Rattle.soc_search.proofs.selection.matching_count.Goals.{then-has, else-has}

pub returns-in_default : goal.returns-in_default
returns-in_default c =
    c.len.ensures.count ∙ sym (ap (λ set. length (filter (λ s. selected set s.0) c.args.store.now)) c.in_default.is ∙ rows_all c.args.store.now)

pub loop-i-preserved : goal.loop-i-preserved
loop-i-preserved c =
    let p = c.place_at.result in
    elim c.if-has.branch [
      | then-has w ↦ (
        count_more (has c.in-Some.set) c.args.store.now c.loop-i.i p c.loop-i.count c.if-has.count c.place_at.ensures c.loop-i.invariant.0
            (let one : length (p ∷ []) ≡ length (cond (has c.in-Some.set p) (p ∷ []) []) = ap (λ b. length (cond b (p ∷ []) [])) (sym w.if-has.true ∙ c.has.ensures) in omega (arith, w.count-is, one)),
        omega (arith, w.count-is),
      )
      | else-has w ↦ (
        count_more (has c.in-Some.set) c.args.store.now c.loop-i.i p c.loop-i.count c.if-has.count c.place_at.ensures c.loop-i.invariant.0
            (let none : 0 ≡ length (cond (has c.in-Some.set p) (p ∷ []) []) = ap (λ b. length (cond b (p ∷ []) [])) (sym w.if-has.false ∙ c.has.ensures) in omega (arith, w.count-is, none)),
        omega (arith, w.count-is),
      )
    ]
