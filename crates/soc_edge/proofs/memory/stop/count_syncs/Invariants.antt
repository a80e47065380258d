use Rattle.std.proofs.Common.{◌≡◌, ◌+◌, ◌≤◌, length}
use Rattle.soc_edge.specs.inner.DiskEntries.{syncs_of}
use Rattle.soc_edge.proofs.memory.stop.count_syncs.Given as goal

abbrev pub invariant-loop-rest : goal.invariant-loop-rest
invariant-loop-rest l = (l.syncs + syncs_of l.rest ≡ syncs_of l.log) × (l.syncs + length l.rest ≤ length l.log)

abbrev pub decreases-loop-rest : goal.decreases-loop-rest
decreases-loop-rest l = length l.rest
