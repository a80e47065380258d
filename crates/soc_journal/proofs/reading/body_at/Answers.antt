use Rattle.soc_edge.proofs.Disks.{Looks-none}
use Rattle.soc_journal.proofs.reading.body_at.Goals as goal

pub returns-in_err-body-clause-disk_stays : goal.returns-in_err-body-clause-disk_stays
returns-in_err-body-clause-disk_stays g c = Looks-none _ (g.met.D.Disk.sound c.args.disk.now)
