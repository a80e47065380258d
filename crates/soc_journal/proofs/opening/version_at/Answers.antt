use Rattle.std.proofs.Common.{arith}
use Rattle.soc_journal.proofs.Headers.{version_told}
use Rattle.soc_journal.proofs.opening.version_at.Goals as goal

pub returns-clause-version : goal.returns-clause-version
returns-clause-version g c = version_told (g.D.Disk.state c.args.disk.now).content _ _ _ (omega (arith, c.read_at.auto.into)) c.in_ok-count.ensures.bytes c.version_in.ensures
