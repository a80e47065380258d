use Rattle.std.proofs.Common.{◌≡◌, drop}
use Rattle.soc_dump.specs.Covering.{owner_in}
use Rattle.soc_dump.proofs.covering.FirstCovering.at.Given as goal

abbrev pub invariant-loop-layer : goal.invariant-loop-layer
invariant-loop-layer l = owner_in (drop l.layer-index l.layer-items) l.x ≡ owner_in l.layer-items l.x
