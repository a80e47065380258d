use Rattle.std.proofs.Common.{◌≡◌, ◌∙◌, ◌<◌, ◌+◌, arith, ap, sym, subst, true, false, length, take, get_or, set, ℕ, refl}
use Rattle.std.specs.List.{list_all}
use Rattle.std.proofs.Math.ListN.{length-set}
use Rattle.std.proofs.lemmas.List.{get_or-set_same, take_all}
use Rattle.soc_search.specs.inner.Selections.{Finds, is_turn}
use Rattle.soc_search.proofs.FieldLemmas.{all_met_more, so_far, still_met, turn_begun, turn_ended, turn_found}
use Rattle.soc_search.proofs.selection.narrowed_where.Goals as goal
use Rattle.soc_search.proofs.selection.narrowed_where.Goals.{then-not-met-place+in_ok-found, else-not-met-place}

pub loop-condition-init : goal.loop-condition-init
loop-condition-init c = (λ test finds. turn_begun c.args.exact c.args.conditions.now c.args.store.now test c.args.found 36 finds, refl, refl)

pub loop-condition-preserved : goal.loop-condition-preserved
loop-condition-preserved c =
    let cs = c.args.conditions.now in
    let exact = c.args.exact in
    let i : ℕ = c.loop-condition.condition-index in
    let k = c.condition-item.result in
    let rows = c.args.store.now in
    let met = c.loop-condition.met in
    let at : c.from-place.result ≡ k.field = c.from-place.ensures ∙ c.place.ensures.value in
    let within : k.field < length met = omega (arith, c.loop-condition.invariant.2, c.place.ensures.in_table, at, c.from-place.ensures) in
    elim c.if-not-met-place.branch [
      | then-not-met-place+in_ok-found w ↦
          let new : c.if-not-met-place.met ≡ set met k.field true = w.met-is ∙ ap (λ p. set met p true) at in (
            λ test finds. subst (λ s. Finds s (so_far exact cs rows test c.if-not-met-place.met) rows) (sym w.found-is) (subst (λ m. Finds w.in_ok-found.found (so_far exact cs rows test m) rows) (sym new) (turn_found exact cs rows test w.in_ok-found.found met k.field within (w.in_ok-found.ensures (so_far exact cs rows test met) (c.loop-condition.invariant.0 test finds)))),
            subst (λ m. list_all (λ d. get_or m d.field false) (take (i + 1) cs) ≡ true) (sym new) (all_met_more cs i k met (set met k.field true) c.loop-condition-test.true (sym c.condition-item.is) (still_met (λ f. is_turn exact f cs) met k.field within) (get_or-set_same met k.field true false within) c.loop-condition.invariant.1),
            ap length new ∙ simp length-set c.loop-condition.invariant.2,
          )
      | else-not-met-place w ↦ (
        λ test finds. subst (λ s. Finds s (so_far exact cs rows test c.if-not-met-place.met) rows) (sym w.found-is) (subst (λ m. Finds c.loop-condition.found (so_far exact cs rows test m) rows) (sym w.met-is) (c.loop-condition.invariant.0 test finds)),
        subst (λ m. list_all (λ d. get_or m d.field false) (take (i + 1) cs) ≡ true) (sym w.met-is) (all_met_more cs i k met met c.loop-condition-test.true (sym c.condition-item.is) (λ f was. was) (ap (λ p. get_or met p false) (sym at) ∙ w.if-not-met-place.false) c.loop-condition.invariant.1),
        ap length w.met-is ∙ c.loop-condition.invariant.2,
      )
    ]

pub returns : goal.returns
returns c =
    let cs = c.args.conditions.now in
    λ test finds. turn_ended c.args.exact cs c.args.store.now test c.loop-condition.found c.loop-condition.met (subst (λ l. list_all (λ d. get_or c.loop-condition.met d.field false) l ≡ true) (take_all c.loop-condition.condition-index cs c.loop-condition-test.false) c.loop-condition.invariant.1) (c.loop-condition.invariant.0 test finds)
