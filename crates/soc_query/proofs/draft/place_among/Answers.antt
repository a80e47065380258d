use Rattle.std.proofs.Common.{arith, ◌∙◌, sym, ◌≡◌, get_or, length}
use Rattle.soc_query.proofs.QueryLemmas.{at_any, field_kept, field_put}
use Rattle.soc_query.proofs.draft.place_among.Goals as goal

pub returns-then-place : goal.returns-then-place
returns-then-place c =
    let same : get_or c.args.fields.now c.loop-place.place 0 ≡ get_or c.args.fields.now c.loop-place.place c.index-fields-place.result = at_any _ _ _ _ c.loop-place-test.true in
    field_kept c.args.field c.args.fields.now c.loop-place.place c.loop-place-test.true c.loop-place.invariant
    (same ∙ (sym c.index-fields-place.is ∙ (sym c.place.ensures.value ∙ (c.if-place.true ∙ c.place-in-loop-place.ensures.value))))

pub returns-then-place-2 : goal.returns-then-place-2
returns-then-place-2 c =
    let same : get_or c.args.fields.now c.loop-place.place 0 ≡ get_or c.args.fields.now c.loop-place.place c.index-fields-place.result = at_any _ _ _ _ c.loop-place-test.true in
    (omega arith, field_put c.args.field c.args.fields.now c.loop-place.place (omega arith) c.loop-place.invariant (λ _. omega (arith, same, c.index-fields-place.is)))

pub returns : goal.returns
returns c =
    (omega arith, field_put c.args.field c.args.fields.now (length c.args.fields.now) (omega arith) (λ j h. c.loop-place.invariant j (omega arith)) (λ h. absurd (omega arith)))
