use Rattle.std.proofs.Common.{◌∙◌, ap, sym, Some}
use Rattle.soc_store.proofs.IndexLemmas.{item_there}
use Rattle.soc_store.proofs.block.Block.term_at.Goals as goal

pub returns : goal.returns
returns c = item_there c.index.result.now c.self.inside.slots.items c.args.self.now c.args.i c.self.view_is c.requires c.index.ensures ∙ ap Some (sym c.term.ensures)
