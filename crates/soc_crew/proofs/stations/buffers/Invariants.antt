use Rattle.std.proofs.Common.{◌≡◌, ◌≤◌}
use Rattle.std.specs.Prelude.{vec_capacity, vec_len}
use Rattle.soc_crew.proofs.stations.buffers.Given as goal

abbrev pub invariant-loop-made : goal.invariant-loop-made
invariant-loop-made l = (vec_len l.list ≡ l.made) × (l.count ≤ vec_capacity l.list)
