use Rattle.std.proofs.Common.{◌∙◌, sym, ap, Some, arith}
use Rattle.soc_dump.proofs.WordLemmas.{stack_behind}
use Rattle.soc_dump.proofs.words.region_at.Goals as goal

pub returns-else-index-memory : goal.returns-else-index-memory
returns-else-index-memory c =
    stack_behind c.args.memory.now c.args.threads.now c.args.index _ c.if-index-memory.false (omega (arith, c.requires))
    ∙ ap Some (sym c.stack_region.ensures)
