use Rattle.std.proofs.Common.{◌≡◌, ◌∙◌, ◌≤◌, sym, subst, arith, length, Some}
use Rattle.soc_schema.specs.Orders.{value_cmp}
use Rattle.soc_schema.specs.Tables.{Rising}
use Rattle.soc_store.specs.inner.Parts.{postings_in}
use Rattle.soc_store.specs.inner.Postings.{without_posting}
use Rattle.soc_store.proofs.IndexLemmas.{rising_unposted, value}
use Rattle.soc_store.proofs.PartSteps.{removed_at, filled_others, none_added}
use Rattle.soc_store.proofs.parts.remove_value.Goals as goal

left : (c : goal.After-recount-arg-1) → postings_in c.drop_empty.new.parts.items ≡ without_posting (Some c.args.value.now) c.args.place (postings_in c.args.parts.now.items)
left c = c.drop_empty.ensures.same ∙ removed_at c.deref.result.now c.args.parts.now.items c.part_of-k.result c.index_mut.result.now (record { block = c.remove.new.self; end = c.index_mut.result.now.end }) c.args.value.now c.deref.ensures.value c.part_of-k.ensures.within c.part_of-k.ensures.before c.part_of-k.ensures.after c.index_mut.ensures.value c.args.place c.remove.ensures

pub drop_empty-requires-clause-filled : goal.drop_empty-requires-clause-filled
drop_empty-requires-clause-filled c = filled_others c.args.parts.now.items c.part_of-k.result (record { block = c.remove.new.self; end = c.index_mut.result.now.end }) c.requires.filled

pub recount-requires-clause-rising : goal.recount-requires-clause-rising
recount-requires-clause-rising c =
    subst (Rising value value_cmp) (sym (left c)) (rising_unposted c.args.value.now c.args.place (postings_in c.args.parts.now.items) c.requires.rising)

pub recount-requires-clause-room : goal.recount-requires-clause-room
recount-requires-clause-room c =
    let most : length (without_posting (Some c.args.value.now) c.args.place (postings_in c.args.parts.now.items)) ≤ length (postings_in c.args.parts.now.items) = none_added c.args.value.now c.args.place (postings_in c.args.parts.now.items) in
    let few = c.requires.few in
    rw (left c) (omega arith)

pub returns-clause-left : goal.returns-clause-left
returns-clause-left c =
    c.recount.ensures.same ∙ c.drop_empty.ensures.same
    ∙ removed_at c.deref.result.now c.args.parts.now.items c.part_of-k.result c.index_mut.result.now (record { block = c.remove.new.self; end = c.index_mut.result.now.end }) c.args.value.now c.deref.ensures.value c.part_of-k.ensures.within c.part_of-k.ensures.before c.part_of-k.ensures.after c.index_mut.ensures.value c.args.place c.remove.ensures
