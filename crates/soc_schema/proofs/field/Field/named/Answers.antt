use Rattle.std.proofs.Common.{◌∙◌, arith, sym}
use Rattle.std.specs.Cmp.Lexicographic.{same_text}
use Rattle.soc_schema.proofs.FieldLemmas.{field_named-found, field_named-absent}
use Rattle.soc_schema.proofs.field.Field.named.Goals as goal

pub returns-then-eq-clause-value : goal.returns-then-eq-clause-value
returns-then-eq-clause-value c =
    rw c.at-field.ensures (sym (field_named-found c.args.name.now c.loop-place.place (omega arith) (rw (← c.at-field.ensures) (sym c.name.ensures.value ∙ same_text _ _ c.if-eq.ensures)) c.loop-place.invariant))

pub returns-clause-value : goal.returns-clause-value
returns-clause-value c =
    sym (field_named-absent c.args.name.now (λ k h. c.loop-place.invariant k (omega arith)))
