use Rattle.std.proofs.Common.{◌∙◌, sym, ap, ◌-◌}
use Rattle.std.specs.Prelude.{slice_get}
use Rattle.soc_store.specs.inner.Parts.{postings_in}
use Rattle.soc_store.proofs.CountedLemmas.{in_part, InPart}
use Rattle.soc_store.proofs.parts.block_near.Goals as goal

there : (c : goal.After-len) → InPart (postings_in c.args.parts.now) c.index-parts-k.result.block c.args.i c.index-parts-k.result.end
there c = in_part c.args.parts.now c.args.i c.part_near-k.result c.index-parts-k.result c.requires.counted c.part_near-k.ensures.within c.index-parts-k.is c.part_near-k.ensures.end c.part_near-k.ensures.start

pub overflow_sub-start : goal.overflow_sub-start
overflow_sub-start c = rw c.len.ensures ((there c).fits)

pub overflow_sub-result : goal.overflow_sub-result
overflow_sub-result c = rw c.len.ensures ((there c).starts)

pub returns-clause-within : goal.returns-clause-within
returns-clause-within c = rw c.len.ensures ((there c).within)

pub returns-clause-there : goal.returns-clause-there
returns-clause-there c =
    (there c).there ∙ ap (λ n. slice_get c.index-parts-k.result.block (c.args.i - (c.index-parts-k.result.end - n))) (sym c.len.ensures)
