use Rattle.std.proofs.Common.{◌≤◌, [], length, arith}
use Rattle.soc_edge.specs.inner.DiskEntries.{bytes_of}
use Rattle.soc_edge.proofs.DiskKept.{bytes_written-log_of}
use Rattle.soc_edge.proofs.memory.disk.MemDisk.written.Goals as goal

pub returns : goal.returns
returns c =
    let disk = c.self.inside in
    let counted = c.self.invariant.counted in
    let within : bytes_of disk.log.items ≤ length disk.written.items = omega (arith, disk.written.ok, counted) in
    rw (← c.self.view_is) (omega (arith, bytes_written-log_of [] disk.log.items disk.written.items within, c.len.ensures, counted))
