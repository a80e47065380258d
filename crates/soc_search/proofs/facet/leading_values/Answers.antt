use Rattle.std.proofs.Common.{◌∙◌, ◌≡◌, refl, length, ◌<◌, filter, arith, subst, Option}
use Rattle.std.specs.Prelude.{IfSome}
use Rattle.soc_schema.specs.declared.value.Value.{Value}
use Rattle.soc_schema.specs.Values.{rows_with, values_of}
use Rattle.soc_search.specs.inner.Selections.{selected}
use Rattle.soc_search.proofs.LeaderLemmas.{value_offered, value_unwanted}
use Rattle.soc_search.proofs.facet.leading_values.Goals as goal
use Rattle.soc_search.proofs.facet.leading_values.Goals.{then-wants+in_ok-offer, else-wants}

pub loop-i-preserved : goal.loop-i-preserved
loop-i-preserved c =
    let f = c.args.field in
    let vs = values_of f c.args.store.now in
    let rows = filter (λ s. selected c.args.set.now s.0) c.args.store.now in
    let n = c.count_at-count.result in
    elim c.if-wants.branch [
      | then-wants+in_ok-offer w ↦
          let P : Option Value → Type 0 = λ o. IfSome o (λ v. n ≡ length (rows_with f v rows)) in
          let v = w.term_near.result.0.now in
          value_offered c.args.size f rows vs c.loop-i.i v w.term_near.ensures.value c.loop-i.leaders c.loop-i.invariant n (subst P w.term_near.ensures.value c.count_at-count.ensures)
          c.if-wants.leaders (record { value = v; count = n }) (c.wants.ensures.some w.if-wants.true) refl (w.leaders-is ∙ w.in_ok-offer.ensures)
      | else-wants w ↦
          let within : c.loop-i.i < length vs = omega (arith, c.values-i-end.ensures.count, c.loop-i-test.true) in
          w.leaders-is ∙ value_unwanted c.args.size f rows vs c.loop-i.i c.loop-i.leaders n c.loop-i.invariant within c.count_at-count.ensures (c.wants.ensures.none w.if-wants.false)
    ]
