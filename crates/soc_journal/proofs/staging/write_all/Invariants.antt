use Rattle.std.proofs.Common.{length}
use Rattle.soc_journal.specs.inner.Staging.{HasStaged}
use Rattle.soc_journal.proofs.staging.write_all.Given as goal

abbrev pub invariant-loop-entry : goal.invariant-loop-entry
invariant-loop-entry g l = HasStaged l.fn.place l.fn.entries (g.D.Disk.state l.fn.disk) l.next l.rest (g.D.Disk.state l.disk)

abbrev pub decreases-loop-entry : goal.decreases-loop-entry
decreases-loop-entry g l = length l.rest
