use Rattle.soc_serve.proofs.Stops.{keep_leaves}
use Rattle.soc_serve.proofs.Sweeps.{ends_keep}
use Rattle.soc_serve.proofs.sweep.keep.Goals as goal

pub returns-clause-ends : goal.returns-clause-ends
returns-clause-ends g c basis state rows digest stands =
    let did = c.keep.ensures.keeps basis state rows digest stands in
    (did.0, did.1, rw c.kept.ensures (ends_keep basis state _ _ did.0 _ did.2), keep_leaves basis state _ _ did.0 _ did.2)
