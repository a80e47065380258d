use Rattle.std.proofs.Common.{◌≡◌, ◌∙◌, sym, subst, ap, Some, Ok, Err, refl}
use Rattle.soc_store.specs.inner.Postings.{without_posting}
use Rattle.soc_schema.specs.Orders.{value_cmp}
use Rattle.soc_schema.specs.Tables.{Rising, FindsKey}
use Rattle.soc_store.proofs.IndexLemmas.{taken_found, gone_found, taken_gap, rising_unposted, value}
use Rattle.soc_store.proofs.block.Block.remove.Goals as goal

left : (c : goal.Else-remove) → (Rattle.std.specs.Vec.with_item c.self.inside.slots c.in-Ok.i c.remove.new.self).items ≡ without_posting (Some c.args.value.now) c.args.place c.self.inside.slots.items
left c =
    let place = subst (λ ts. FindsKey value value_cmp c.args.value.now ts (Ok c.in-Ok.i)) c.as_slice.ensures.value c.in-Ok.ensures in
    taken_found c.self.inside.slots.items c.args.value.now c.in-Ok.i c.args.place c.index_mut-slot.result.now c.remove.new.self c.self.invariant place c.index_mut-slot.ensures.value
    (c.remove.ensures.left) (λ e. let h = c.if-remove.ensures.none.1 e in cc)

gone : (c : goal.After-drop-remove) → c.remove-then-remove.new.self.items ≡ without_posting (Some c.args.value.now) c.args.place c.self.inside.slots.items
gone c =
    let place = subst (λ ts. FindsKey value value_cmp c.args.value.now ts (Ok c.in-Ok.i)) c.as_slice.ensures.value c.in-Ok.ensures in
    c.remove-then-remove.ensures.items
    ∙ gone_found c.self.inside.slots.items c.args.value.now c.in-Ok.i c.args.place c.index_mut-slot.result.now c.remove.new.self c.self.invariant place c.index_mut-slot.ensures.value
    (c.remove.ensures.left) (c.if-remove.ensures.none.0 refl)

pub invariant_of-self : goal.invariant_of-self
invariant_of-self c = subst (Rising value value_cmp) (sym (gone c)) (rising_unposted c.args.value.now c.args.place c.self.inside.slots.items c.self.invariant)

pub invariant_of-self-else-remove : goal.invariant_of-self-else-remove
invariant_of-self-else-remove c = subst (Rising value value_cmp) (sym (left c)) (rising_unposted c.args.value.now c.args.place c.self.inside.slots.items c.self.invariant)

pub returns-then-remove : goal.returns-then-remove
returns-then-remove c = gone c ∙ ap (without_posting (Some c.args.value.now) c.args.place) c.self.view_is

pub returns-else-remove : goal.returns-else-remove
returns-else-remove c = left c ∙ ap (without_posting (Some c.args.value.now) c.args.place) c.self.view_is

pub returns-in_default : goal.returns-in_default
returns-in_default c =
    let place = subst (λ ts. FindsKey value value_cmp c.args.value.now ts (Err c.in_default.field-0)) c.as_slice.ensures.value c.in_default.ensures in
    sym c.self.view_is ∙ taken_gap c.self.inside.slots.items c.args.value.now c.in_default.field-0 c.args.place place
    ∙ ap (without_posting (Some c.args.value.now) c.args.place) c.self.view_is
