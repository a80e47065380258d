use Rattle.std.proofs.Common.{length, take, ◌-◌, ◌≤◌}
use Rattle.soc_edge.specs.Told.{Writes}
use Rattle.soc_edge.proofs.whole.write_all.Given as goal

abbrev pub invariant-loop-at : goal.invariant-loop-at
invariant-loop-at g l =
    (l.at ≤ length l.bytes)
    × Writes (g.K.Tells.told l.initial.sink) (g.K.Tells.told l.sink) (take l.at l.bytes)

abbrev pub decreases-loop-at : goal.decreases-loop-at
decreases-loop-at g l = length l.bytes - l.at
