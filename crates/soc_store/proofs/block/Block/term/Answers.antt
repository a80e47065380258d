use Rattle.std.proofs.Common.{◌∙◌, ap, sym, subst, Some, Ok, Err}
use Rattle.soc_schema.specs.Orders.{value_cmp}
use Rattle.soc_schema.specs.Tables.{FindsKey, at_key}
use Rattle.soc_store.proofs.IndexLemmas.{found_at, missing_at, value}
use Rattle.soc_store.proofs.block.Block.term.Goals as goal

pub returns-in-Ok : goal.returns-in-Ok
returns-in-Ok c =
    let place = subst (λ ts. FindsKey value value_cmp c.args.value.now ts (Ok c.in-Ok.i)) c.as_slice.ensures.value c.in-Ok.ensures in
    ap Some c.term.ensures ∙ sym (found_at c.self.inside.slots.items c.args.value.now c.in-Ok.i c.index.result.now c.self.invariant place c.index.ensures)
    ∙ ap (at_key value value_cmp c.args.value.now) c.self.view_is

pub returns-in-Err : goal.returns-in-Err
returns-in-Err c =
    let place = subst (λ ts. FindsKey value value_cmp c.args.value.now ts (Err c.in-Err.field-0)) c.as_slice.ensures.value c.in-Err.ensures in
    sym (missing_at c.self.inside.slots.items c.args.value.now c.in-Err.field-0 place)
    ∙ ap (at_key value value_cmp c.args.value.now) c.self.view_is
