use Rattle.soc_edge.proofs.Disks.{Looks-append}
use Rattle.soc_journal.proofs.Mends.{opens_told}
use Rattle.soc_journal.proofs.journal.settled_gate.Goals as goal

pub returns-clause-open_gate : goal.returns-clause-open_gate
returns-clause-open_gate g c =
    opens_told (g.D.Disk.state c.args.disk.now).content (g.D.Disk.state c.sync.new.self).content c.sync.ensures.looks.same c.args.place _ c.reads_piece.ensures.holds

pub returns-clause-disk_stays : goal.returns-clause-disk_stays
returns-clause-disk_stays g c = Looks-append _ _ _ c.sync.ensures.looks c.reads_piece.ensures.disk_stays
