use Rattle.std.proofs.Common.{◌∙◌, arith, set, refl, [], take, ap, get_or}
use Rattle.std.proofs.lemmas.List.{set-get_or}
use Rattle.soc_schema.specs.Rows.{value_of, cell}
use Rattle.soc_store.specs.inner.Postings.{with_posting, without_posting}
use Rattle.soc_store.proofs.ValueLemmas.{value_step_at, next_cell, all_taken}
use Rattle.soc_store.proofs.IndexLemmas.{without_posting-with_posting}
use Rattle.soc_store.proofs.values.add_values.Goals as goal

pub loop-added-preserved : goal.loop-added-preserved
loop-added-preserved c =
    let here = next_cell c.args.row.now c.loop-added.added c.loop-added.field-iterator c.next.new.self (cell c.in-Some.field c.in-Some.value.now) c.loop-added.invariant.rest c.in-Some.ensures.steps in
    record {
      rest = here.1;
      put = value_step_at (λ v. with_posting v c.args.place) (λ _. refl) c.args.row.now c.loop-added.added c.from-at.result c.in-Some.field c.in-Some.value.now c.loop-added.fields c.args.fields.now c.index-fields-at.result c.add.new.self
          c.iter-field-items.ensures.is_row here.0 (c.from-at.ensures ∙ c.place.ensures.value) (omega (arith, c.place.ensures.value, c.place.ensures.in_table)) (omega (arith, c.loop-added.auto.fields, c.requires.whole)) c.loop-added.invariant.put c.in_default.ensures.ok;
    }

pub returns-clause-ok : goal.returns-clause-ok
returns-clause-ok c = λ f lt.
    c.loop-added.invariant.put f
    ∙ ap (λ r. with_posting (value_of r f) c.args.place (get_or c.args.fields.now f [])) (all_taken c.args.row.now c.loop-added.added c.loop-added.field-iterator c.loop-added.invariant.rest c.in-None.ensures.steps.0)

pub returns-in-Err-clause-err : goal.returns-in-Err-clause-err
returns-in-Err-clause-err c = λ f lt.
    let there = value_of (take c.loop-added.added c.args.row.now) f in
    c.remove_values.ensures f ∙ ap (without_posting there c.args.place) (ap (λ u. get_or (set c.loop-added.fields c.from-at.result u) f []) c.in-Err.ensures.err ∙ ap (λ l. get_or l f []) (set-get_or c.loop-added.fields c.from-at.result c.index-fields-at.result) ∙ c.loop-added.invariant.put f)
    ∙ without_posting-with_posting there c.args.place (get_or c.args.fields.now f []) (c.requires.postings f lt)
