use Rattle.std.specs.Map.Iter.{deref_pair}
use Rattle.soc_raw.proofs.PairLists.{compared, pair_eq, pair_same, pair_differs}
use Rattle.soc_raw.proofs.copies.are_same_blobs.Goals as goal

pub returns : goal.returns
returns c =
    let h = c.eq.ensures.ran in
    compared deref_pair pair_eq pair_same pair_differs c.args.a.now c.args.b.now c.iter.result h.0 c.eq.result h.1 h.2 h.3 h.4 h.5 h.6 c.iter.ensures.rest h.7.0 h.8 h.9 h.10 h.11
