use Rattle.soc_store.proofs.PartSteps.{cut_filled, cut_same}
use Rattle.soc_store.proofs.parts.cut.Goals as goal

pub returns-in-Ok-halve-clause-filled : goal.returns-in-Ok-halve-clause-filled
returns-in-Ok-halve-clause-filled c =
    cut_filled c.insert.new.self.items c.args.parts.now.items c.args.k (record { block = c.new-block.result; end = 0 }) c.index_mut.result.now (record { block = c.halve.new.self; end = c.index_mut.result.now.end }) (record { block = c.in-Ok-halve.back; end = c.index_mut-in-Ok-halve.result.now.end })
    c.requires.within c.in-Ok.ensures.items c.new-block.ensures c.requires.filled c.in-Ok-halve.ensures.front c.in-Ok-halve.ensures.back

pub returns-in-Ok-halve-clause-same : goal.returns-in-Ok-halve-clause-same
returns-in-Ok-halve-clause-same c =
    cut_same c.insert.new.self.items c.args.parts.now.items c.args.k (record { block = c.new-block.result; end = 0 }) c.index_mut.result.now (record { block = c.halve.new.self; end = c.index_mut.result.now.end }) (record { block = c.in-Ok-halve.back; end = c.index_mut-in-Ok-halve.result.now.end })
    c.requires.within c.in-Ok.ensures.items c.new-block.ensures c.index_mut.ensures.value c.in-Ok-halve.ensures.halves
