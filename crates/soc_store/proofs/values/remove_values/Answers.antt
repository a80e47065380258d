use Rattle.std.proofs.Common.{◌≡◌, ◌+◌, ◌-◌, ◌∙◌, arith, refl, ap, take, get_or, []}
use Rattle.soc_schema.specs.Rows.{value_of, cell}
use Rattle.soc_store.specs.inner.Postings.{without_posting}
use Rattle.soc_store.proofs.ValueLemmas.{value_step_at, next_cell, none_after}
use Rattle.soc_store.proofs.values.remove_values.Goals as goal

pub loop-field-preserved : goal.loop-field-preserved
loop-field-preserved c =
    let done = c.args.count - c.loop-field.field-iterator.n in
    let here = next_cell c.args.row.now done c.loop-field.field-iterator.iter c.next.new.self.iter (cell c.in-Some.field c.in-Some.value.now) c.loop-field.invariant.rest c.in-Some.ensures.steps.0 in
    let fewer : c.next.new.self.n + 1 ≡ c.loop-field.field-iterator.n = c.in-Some.ensures.steps.1 in
    let more : done + 1 ≡ c.args.count - c.next.new.self.n = omega (arith, c.loop-field.invariant.few) in
    let step = value_step_at (λ v. without_posting v c.args.place) (λ _. refl) c.args.row.now done c.from-at.result c.in-Some.field c.in-Some.value.now c.loop-field.fields c.args.fields.now c.index-fields-at.result c.remove.new.self
    c.iter.ensures.is_row here.0 (c.from-at.ensures ∙ c.place.ensures.value) (omega (arith, c.place.ensures.value, c.place.ensures.in_table)) (omega (arith, c.loop-field.auto.fields, c.requires.whole)) c.loop-field.invariant.taken c.remove.ensures in
    record {
      few = omega (arith, c.loop-field.invariant.few);
      rest = rw (← more) (here.1);
      taken = rw (← more) step;
    }

pub returns : goal.returns
returns c = λ f.
    let all : c.args.count - c.loop-field.field-iterator.n ≡ c.args.count = none_after c.args.row.now c.args.count c.loop-field.field-iterator.n c.loop-field.field-iterator.iter c.requires.within c.loop-field.invariant.few c.loop-field.invariant.rest (λ some. (c.in-None.ensures.steps some).0) in
    c.loop-field.invariant.taken f ∙ ap (λ n. without_posting (value_of (take n c.args.row.now) f) c.args.place (get_or c.args.fields.now f [])) all
