use Rattle.std.proofs.Common.{◌∙◌, ap, sym, arith, map, ◌%◌, ◌≤◌}
use denote.Ref.{Bor}
use Rattle.soc_schema.specs.Values.{values_of}
use Rattle.soc_query.specs.declared.condition.Condition.{Condition}
use Rattle.soc_search.specs.inner.Places.{has}
use Rattle.soc_search.specs.inner.Selections.{stands_out}
use Rattle.soc_search.proofs.BitLemmas.{none_there}
use Rattle.soc_search.proofs.SelectionLemmas.{chosen_more, chosen_over, joined_values, run_begun, run_ended}
use Rattle.soc_search.proofs.selection.passed_places.Goals as goal
use Rattle.soc_search.proofs.selection.passed_places.Goals.{then-stands_out+in_ok-add_all, else-stands_out}

pub loop-i-init : goal.loop-i-init
loop-i-init c =
    run_begun (has c.new-set.result) c.args.field (stands_out (map (λ (d : Bor Condition). d.now) c.args.asked.now)) c.args.store.now (values_of c.args.field c.args.store.now) c.asked_run-run.result.first
    (λ p. ap (λ s. has s p) c.new-set.ensures ∙ none_there (p % 65536)) c.asked_run-run.ensures.before

pub loop-i-preserved : goal.loop-i-preserved
loop-i-preserved c =
    let f = c.args.field in
    let out = stands_out (map (λ (d : Bor Condition). d.now) c.args.asked.now) in
    let vs = values_of f c.args.store.now in
    elim c.if-stands_out.branch [
      | then-stands_out+in_ok-add_all w ↦ chosen_more (has c.loop-i.set) (has c.if-stands_out.set) f out c.args.store.now vs c.loop-i.i c.term_near.result.0.now c.term_near.result.1.now c.term_near.ensures.value (sym c.stands_out.ensures ∙ w.if-stands_out.true) c.term_near.ensures.places
          (λ p. ap (λ s. has s p) w.set-is ∙ w.in_ok-add_all.ensures p) c.loop-i.invariant
      | else-stands_out w ↦ chosen_over (has c.loop-i.set) (has c.if-stands_out.set) f out c.args.store.now vs c.loop-i.i c.term_near.result.0.now c.term_near.ensures.value (sym c.stands_out.ensures ∙ w.if-stands_out.false)
          (λ p. ap (λ s. has s p) w.set-is) c.loop-i.invariant
    ]

pub returns : goal.returns
returns c =
    let f = c.args.field in
    let vs = values_of f c.args.store.now in
    let out = stands_out (map (λ (d : Bor Condition). d.now) c.args.asked.now) in
    let behind : c.asked_run-run.result.end ≤ c.loop-i.i = omega arith in
    joined_values (has c.loop-i.set) f out c.args.store.now vs c.places_rise.ensures.rise c.values-values.ensures.each
    (run_ended (has c.loop-i.set) f out c.args.store.now vs c.asked_run-run.result.end c.loop-i.i behind c.asked_run-run.ensures.behind c.loop-i.invariant)
