use Rattle.std.proofs.Common.{◌≡◌, ◌∙◌, ◌+◌, ◌≤◌, sym, ap, subst, arith, length, set, Some}
use Rattle.soc_schema.specs.Orders.{value_cmp}
use Rattle.soc_schema.specs.Tables.{Rising}
use Rattle.soc_store.specs.inner.Parts.{AreFilled, blocks_of, postings_in}
use Rattle.soc_store.specs.inner.Postings.{with_posting}
use Rattle.soc_store.proofs.IndexLemmas.{rising_posting, value}
use Rattle.soc_store.proofs.PartSteps.{added_at, blocks_set, filled_set, one_added, some_added}
use Rattle.soc_store.proofs.parts.add_value.Goals as goal

added : (c : goal.After-settle-arg-1) → postings_in (set c.begin.new.parts.items c.part_of-k.result (record { block = c.add.new.self; end = c.index_mut.result.now.end })) ≡ with_posting (Some c.args.value.now) c.args.place (postings_in c.begin.new.parts.items)
added c = added_at c.deref.result.now c.begin.new.parts.items c.part_of-k.result c.index_mut.result.now (record { block = c.add.new.self; end = c.index_mut.result.now.end }) c.args.value.now c.deref.ensures.value c.part_of-k.ensures.within c.part_of-k.ensures.before c.part_of-k.ensures.after c.index_mut.ensures.value c.args.place c.in_ok-add.ensures.ok

pub settle-requires-clause-filled : goal.settle-requires-clause-filled
settle-requires-clause-filled c =
    subst AreFilled (sym (blocks_set c.begin.new.parts.items c.part_of-k.result (record { block = c.add.new.self; end = c.index_mut.result.now.end })))
    (filled_set (blocks_of c.begin.new.parts.items) c.part_of-k.result c.add.new.self c.begin.ensures.parts.filled (rw c.in_ok-add.ensures.ok (some_added c.args.value.now c.args.place c.index_mut.result.now.block)))

pub settle-requires-clause-rising : goal.settle-requires-clause-rising
settle-requires-clause-rising c =
    subst (Rising value value_cmp) (sym (added c)) (rising_posting (Some c.args.value.now) c.args.place (postings_in c.begin.new.parts.items) c.begin.ensures.parts.rising)

pub settle-requires-clause-room : goal.settle-requires-clause-room
settle-requires-clause-room c =
    let most : length (with_posting (Some c.args.value.now) c.args.place (postings_in c.begin.new.parts.items)) ≤ length (postings_in c.begin.new.parts.items) + 1 = one_added c.args.value.now c.args.place (postings_in c.begin.new.parts.items) in
    let room = c.in_ok-begin.ensures.room in
    rw (added c) (omega arith)

pub returns-clause-ok : goal.returns-clause-ok
returns-clause-ok c =
    c.settle.ensures.same
    ∙ added_at c.deref.result.now c.begin.new.parts.items c.part_of-k.result c.index_mut.result.now (record { block = c.add.new.self; end = c.index_mut.result.now.end }) c.args.value.now c.deref.ensures.value c.part_of-k.ensures.within c.part_of-k.ensures.before c.part_of-k.ensures.after c.index_mut.ensures.value c.args.place c.in_ok-add.ensures.ok
    ∙ ap (with_posting (Some c.args.value.now) c.args.place) c.begin.ensures.same
