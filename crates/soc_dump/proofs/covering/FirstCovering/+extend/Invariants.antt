use Rattle.std.proofs.Common.{length}
use Rattle.soc_dump.proofs.covering.FirstCovering.+extend.Given as goal

abbrev pub decreases-extend : goal.decreases-extend
decreases-extend l = length l.intervals.now
