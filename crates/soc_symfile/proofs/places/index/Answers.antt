use Rattle.soc_symfile.proofs.IndexLemmas.{index_as_is, index_of}
use Rattle.soc_symfile.proofs.places.index.Goals as goal

pub returns-then-are_in_order : goal.returns-then-are_in_order
returns-then-are_in_order g c =
    index_as_is g.R.Keyed.key_of c.args.records.now c.in_ok-places.places.items c.in_ok-places.ensures (rw c.as_slice.ensures.value at (c.are_in_order.ensures c.if-are_in_order.true))

pub returns : goal.returns
returns g c = index_of g.R.Keyed.key_of _ _ _ c.in_ok-places.ensures c.sort_unstable.ensures.permutation c.sort_unstable.ensures.sorted
