use Rattle.std.proofs.Common.{◌-◌, ◌≤◌}
use Rattle.soc_session.specs.inner.Intakes.{IsFedSo}
use Rattle.soc_session.proofs.bodies.feed.Given as goal

-- the bytes that have come are a front of the body, and the form was fed these
abbrev pub invariant-loop-left : goal.invariant-loop-left
invariant-loop-left g l =
    IsFedSo (g.X.Tells.told l.initial.link) (g.X.Tells.told l.link) l.initial.buffer l.initial.form.boundary l.form (l.length - l.left) l.buffer
    × (l.left ≤ l.length)

abbrev pub decreases-loop-left : goal.decreases-loop-left
decreases-loop-left g l = l.left
