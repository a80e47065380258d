use Rattle.soc_store.proofs.IndexLemmas.{count_there}
use Rattle.soc_store.proofs.block.Block.count_at.Goals as goal

pub returns : goal.returns
returns c = count_there c.index.result.now c.self.inside.slots.items c.args.self.now c.args.i c.count.result c.self.view_is c.requires c.index.ensures c.count.ensures
