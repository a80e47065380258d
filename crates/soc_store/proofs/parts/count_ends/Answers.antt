use Rattle.std.proofs.Common.{◌∙◌, rules, arith, refl, get_or, ◌+◌}
use Rattle.soc_store.proofs.CountedLemmas.{count_fits, counted_step}
use Rattle.soc_store.proofs.parts.count_ends.Goals as goal

pub overflow_add-count : goal.overflow_add-count
overflow_add-count c =
    let fits = count_fits c.loop-part.parts c.args.parts.now c.loop-part.part-index c.part-item.result c.loop-part.count c.len-count.result (omega arith) c.loop-part.invariant.count c.len-count.ensures c.loop-part.invariant.blocks c.requires in
    search rules

pub loop-part-preserved : goal.loop-part-preserved
loop-part-preserved c =
    let step = counted_step c.loop-part.parts c.loop-part.part-index c.part-item.result (record { block = (get_or c.loop-part.parts c.loop-part.part-index c.part-item.result).block; end = c.loop-part.count + c.len-count.result }) c.loop-part.count c.len-count.result (omega arith) c.loop-part.invariant.count c.len-count.ensures c.loop-part.invariant.counted refl refl in
    record { count = step.0; blocks = step.1 ∙ c.loop-part.invariant.blocks; counted = step.2 }
