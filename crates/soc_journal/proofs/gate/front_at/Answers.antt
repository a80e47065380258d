use Rattle.std.proofs.Common.{arith}
use Rattle.soc_journal.proofs.Gates.{front_told}
use Rattle.soc_journal.proofs.gate.front_at.Goals as goal

pub returns-clause-front : goal.returns-clause-front
returns-clause-front g c = front_told (g.D.Disk.state c.args.disk.now).content c.args.place _ _ _ (omega (arith, c.read_at.auto.into)) c.in_ok-count.ensures.bytes c.front_of.ensures
