use Rattle.std.proofs.Common.{◌-◌, length}
use Rattle.soc_http.specs.inner.Bodies.{IsFilledTo}
use Rattle.soc_http.proofs.body.read_into.Given as goal

abbrev pub invariant-loop-at : goal.invariant-loop-at
invariant-loop-at g l =
    IsFilledTo (g.S.Tells.told l.fn.source) (g.S.Tells.told l.source) l.fn.buffer l.body l.buffer l.at

abbrev pub decreases-loop-at : goal.decreases-loop-at
decreases-loop-at g l = length l.body - l.at
