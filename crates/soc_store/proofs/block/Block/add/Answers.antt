use Rattle.std.proofs.Common.{◌≡◌, ◌∙◌, sym, subst, ap, Some, Ok, Err}
use Rattle.std.proofs.lemmas.Result.{err_from_is_err_and}
use Rattle.soc_store.specs.inner.Postings.{with_posting}
use Rattle.soc_schema.specs.Orders.{value_cmp}
use Rattle.soc_schema.specs.Tables.{Rising, FindsKey}
use Rattle.soc_store.proofs.IndexLemmas.{added_found, kept_found, added_gap, rising_posting, value}
use Rattle.soc_store.proofs.block.Block.add.Goals as goal

added : (c : goal.In_ok-add-in-Ok) → (Rattle.std.specs.Vec.with_item c.self.inside.slots c.in-Ok.i c.add.new.self).items ≡ with_posting (Some c.args.value.now) c.args.place c.self.inside.slots.items
added c =
    let place = subst (λ ts. FindsKey value value_cmp c.args.value.now ts (Ok c.in-Ok.i)) c.as_slice.ensures.value c.in-Ok.ensures in
    added_found c.self.inside.slots.items c.args.value.now c.in-Ok.i c.args.place c.index_mut-slot.result.now c.add.new.self c.self.invariant place c.index_mut-slot.ensures.value
    (c.in_ok-add-in-Ok.ensures.ok)

put : (c : goal.In_ok-insert-in-Err) → c.insert.new.self.items ≡ with_posting (Some c.args.value.now) c.args.place c.self.inside.slots.items
put c =
    let place = subst (λ ts. FindsKey value value_cmp c.args.value.now ts (Err c.in-Err.i)) c.as_slice.ensures.value c.in-Err.ensures in
    c.in_ok-insert-in-Err.ensures.items
    ∙ added_gap c.self.inside.slots.items c.args.value.now c.in-Err.i c.args.place c.in_ok-slot-in-Err.slot place c.in_ok-slot-in-Err.ensures

kept : (c : goal.After-from_residual) → (Rattle.std.specs.Vec.with_item c.self.inside.slots c.in-Ok.i c.add.new.self).items ≡ c.self.inside.slots.items
kept c =
    let place = subst (λ ts. FindsKey value value_cmp c.args.value.now ts (Ok c.in-Ok.i)) c.as_slice.ensures.value c.in-Ok.ensures in
    kept_found c.self.inside.slots.items c.args.value.now c.in-Ok.i c.index_mut-slot.result.now c.add.new.self place c.index_mut-slot.ensures.value (c.in_err-add-in-Ok.ensures.err)

pub invariant_of-self : goal.invariant_of-self
invariant_of-self c = subst (Rising value value_cmp) (sym (added c)) (rising_posting (Some c.args.value.now) c.args.place c.self.inside.slots.items c.self.invariant)

pub invariant_of-self-in_err-add-in-Ok : goal.invariant_of-self-in_err-add-in-Ok
invariant_of-self-in_err-add-in-Ok c = subst (Rising value value_cmp) (sym (kept c)) c.self.invariant

pub returns-in_err-add-in-Ok-clause-err : goal.returns-in_err-add-in-Ok-clause-err
returns-in_err-add-in-Ok-clause-err c = rw ((err_from_is_err_and c.from_residual.result c.from_residual.ensures.1).1) (kept c ∙ c.self.view_is)

pub invariant_of-self-in-Continue-branch-3 : goal.invariant_of-self-in-Continue-branch-3
invariant_of-self-in-Continue-branch-3 c = subst (Rising value value_cmp) (sym (put c)) (rising_posting (Some c.args.value.now) c.args.place c.self.inside.slots.items c.self.invariant)

pub returns-in_ok-add-in-Ok-clause-ok : goal.returns-in_ok-add-in-Ok-clause-ok
returns-in_ok-add-in-Ok-clause-ok c = added c ∙ ap (with_posting (Some c.args.value.now) c.args.place) c.self.view_is

pub returns-in_ok-insert-in-Err-clause-ok : goal.returns-in_ok-insert-in-Err-clause-ok
returns-in_ok-insert-in-Err-clause-ok c = put c ∙ ap (with_posting (Some c.args.value.now) c.args.place) c.self.view_is
