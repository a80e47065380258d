use Rattle.std.proofs.Common.{◌≡◌, ◌++◌, map, take, drop}
use Rattle.soc_edge.specs.DiskLog.{flipped}
use Rattle.soc_edge.proofs.memory.stop.flip.Given as goal

abbrev pub invariant-loop-byte : goal.invariant-loop-byte
invariant-loop-byte l = l.bytes ≡ map flipped (take l.byte-index l.initial.bytes) ++ drop l.byte-index l.initial.bytes
