use Rattle.std.proofs.Common.{length}
use Rattle.soc_journal.specs.inner.Staging.{HasLooked}
use Rattle.soc_journal.proofs.staging.length_within.Given as goal

abbrev pub invariant-loop-entry : goal.invariant-loop-entry
invariant-loop-entry l = HasLooked l.entries l.rest l.most l.left

abbrev pub decreases-loop-entry : goal.decreases-loop-entry
decreases-loop-entry l = length l.rest
