use Rattle.soc_store.proofs.IndexLemmas.{value_there}
use Rattle.soc_store.proofs.block.Block.compare_first.Goals as goal

pub returns : goal.returns
returns c = (c.index.result.now.value, value_there c.index.result.now c.self.inside.slots.items c.args.self.now 0 c.self.view_is c.requires.some c.index.ensures, c.compare.ensures)
