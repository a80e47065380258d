use Rattle.soc_edge.proofs.Disks.{Looks-append}
use Rattle.soc_edge.proofs.DiskKept.{Looks-synced}
use Rattle.soc_edge.proofs.memory.disk.MemDiskDisk.sync.Goals as goal

pub returns-clause-looks : goal.returns-clause-looks
returns-clause-looks c = Looks-append _ _ _ c.pass.ensures.looks (Looks-synced c.pass.new.self c.settle.new.self c.settle.ensures)
