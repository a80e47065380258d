use Rattle.std.proofs.Common.{refl}
use Rattle.soc_serve.proofs.Stops.{drain_leaves}
use Rattle.soc_serve.proofs.Sweeps.{ends_drain, operator}
use Rattle.soc_serve.proofs.sweep.drain.Goals as goal

pub returns-clause-ends : goal.returns-clause-ends
returns-clause-ends g c basis state rows stands =
    let did = c.drain.ensures.does operator refl basis state rows stands in
    (did.0, did.1, rw c.drained.ensures (ends_drain basis state _ _ did.0 _ did.1.legal did.2), drain_leaves basis state _ _ did.0 _ did.2)
