use Rattle.std.proofs.Common.{◌-◌, ◌≤◌}
use Rattle.soc_http.specs.inner.Bodies.{Past}
use Rattle.soc_http.proofs.body.pass_over.Given as goal

abbrev pub invariant-loop-left : goal.invariant-loop-left
invariant-loop-left g l =
    Past (g.S.Tells.told l.initial.source) (g.S.Tells.told l.source) l.initial.buffer l.buffer (l.length - l.left)
    × (l.left ≤ l.length)

abbrev pub decreases-loop-left : goal.decreases-loop-left
decreases-loop-left g l = l.left
