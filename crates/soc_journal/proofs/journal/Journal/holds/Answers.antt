use Rattle.soc_edge.proofs.Disks.{Looks-append}
use Rattle.soc_journal.proofs.journal.Journal.holds.Goals as goal

pub returns-clause-disk_stays : goal.returns-clause-disk_stays
returns-clause-disk_stays g c = Looks-append _ _ _ c.len.ensures.looks c.reads_from.ensures.disk_stays
