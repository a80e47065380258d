use Rattle.soc_edge.proofs.Disks.{Looks-append}
use Rattle.soc_journal.proofs.opening.synced_len.Goals as goal

pub returns-clause-disk_stays : goal.returns-clause-disk_stays
returns-clause-disk_stays g c = Looks-append _ _ _ c.sync.ensures.looks c.len.ensures.looks
