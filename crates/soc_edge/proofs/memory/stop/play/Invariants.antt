use Rattle.std.proofs.Common.{◌≤◌, [], length, vec_capacity}
use Rattle.soc_edge.specs.inner.DiskEntries.{log_of}
use Rattle.soc_edge.specs.DiskLog.{stopped}
use Rattle.soc_edge.proofs.DiskStop.{Playing}
use Rattle.soc_edge.proofs.memory.stop.play.Given as goal

abbrev pub invariant-loop-rest : goal.invariant-loop-rest
invariant-loop-rest l =
    Playing (stopped l.initial.image.items (log_of [] l.log l.written) l.first_choice) (vec_capacity l.initial.image) l.image.items l.rest l.bytes l.choice l.syncs
    × (vec_capacity l.initial.image ≤ vec_capacity l.image)

abbrev pub decreases-loop-rest : goal.decreases-loop-rest
decreases-loop-rest l = length l.rest
