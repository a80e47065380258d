use Rattle.std.proofs.Common.{◌-◌}
use Rattle.soc_vault.specs.inner.Readings.{Reading}
use Rattle.soc_vault.proofs.opening.give_all.Given as goal

abbrev pub invariant-loop-found : goal.invariant-loop-found
invariant-loop-found g l =
    Reading (g.R.Recover.was_given l.into) (g.R.Recover.name l.initial.into) (g.R.Recover.name l.into) (g.D.Disk.state l.initial.disk) (g.D.Disk.state l.disk) l.fn.opening l.opening

abbrev pub decreases-loop-found : goal.decreases-loop-found
decreases-loop-found g l = l.opening.length - l.opening.place
