use Rattle.std.proofs.Common.{◌≡◌, ◌++◌, ◌∙◌, sym, ap, subst, arith}
use Rattle.soc_schema.specs.Fields.{field_entry}
use Rattle.soc_schema.specs.Permits.{is_granted}
use Rattle.soc_session.specs.Json.{field_json}
use Rattle.soc_session.proofs.JsonLemmas.{PutFields, fields-begin, fields-end, fields-with, fields-without}
use Rattle.soc_session.proofs.json.put_fields.Goals as goal
use Rattle.soc_session.proofs.json.put_fields.Goals.{then-granted+in_ok-put_comma+in_ok-put_field, else-granted}

pub loop-place-init : goal.loop-place-init
loop-place-init c = fields-begin _ _

pub loop-place-preserved : goal.loop-place-preserved
loop-place-preserved c = elim c.if-granted.branch [
  | then-granted+in_ok-put_comma+in_ok-put_field w ↦
      rw (w.out-is, w.count-is) (fields-with c.args.caller.now c.args.out.now.items c.loop-place.out.items w.put_comma.new.out.items w.put_field.new.out.items c.loop-place.count c.loop-place.place
      c.loop-place-test.true (sym w.if-granted.true ∙ c.granted.ensures.test ∙ ap (is_granted c.args.caller.now) c.at-field.ensures) c.loop-place.invariant w.in_ok-put_comma.ensures
      (w.in_ok-put_field.ensures ∙ ap (λ f. w.put_comma.new.out.items ++ field_json (field_entry f)) c.at-field.ensures))
  | else-granted w ↦
      rw (w.out-is, w.count-is) (fields-without c.args.caller.now c.args.out.now.items c.loop-place.out.items c.loop-place.count c.loop-place.place
      c.loop-place-test.true (sym w.if-granted.false ∙ c.granted.ensures.test ∙ ap (is_granted c.args.caller.now) c.at-field.ensures) c.loop-place.invariant)
]

pub returns : goal.returns
returns c =
    let all : c.loop-place.place ≡ 36 = omega arith in
    fields-end c.args.caller.now c.args.out.now.items c.loop-place.out.items c.loop-place.count
    (subst (λ p. PutFields c.args.caller.now c.args.out.now.items c.loop-place.out.items c.loop-place.count p) all c.loop-place.invariant)
