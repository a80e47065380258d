use Rattle.soc_search.specs.inner.Places.{has}
use Rattle.soc_search.proofs.SelectionLemmas.{each_more}
use Rattle.soc_search.proofs.selection.every_place.Goals as goal

pub loop-i-preserved : goal.loop-i-preserved
loop-i-preserved c = each_more (has c.loop-i.set) (has c.add.new.self) c.args.store.now c.loop-i.i c.place_at.result c.place_at.ensures c.in_ok-add.ensures c.loop-i.invariant
