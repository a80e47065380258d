use Rattle.std.proofs.Common.{[], arith}
use Rattle.soc_edge.proofs.DiskKept.{length-log_of}
use Rattle.soc_edge.proofs.memory.disk.MemDisk.made.Goals as goal

pub returns : goal.returns
returns c =
    let disk = c.self.inside in
    rw (← c.self.view_is) (omega (arith, length-log_of [] disk.log.items disk.written.items, c.len.ensures, disk.log.ok))
