use Rattle.std.proofs.Common.{length}
use Rattle.soc_dump.proofs.words.+extend_by_memory.Given as goal

abbrev pub decreases-extend_by_memory : goal.decreases-extend_by_memory
decreases-extend_by_memory l = length l.regions.now
