use Rattle.std.proofs.Common.{length}
use Rattle.soc_edge.proofs.Disks.{MayTear-looks, MayTear-behind-looks}
use Rattle.soc_edge.proofs.DiskKept.{MayTear-wrote}
use Rattle.soc_edge.proofs.memory.disk.MemDiskDisk.write_at.Goals as goal

pub returns-then-refuses_write-clause-tears : goal.returns-then-refuses_write-clause-tears
returns-then-refuses_write-clause-tears c = MayTear-looks c.args.place (length c.args.bytes.now) _ _ c.fail.ensures.looks

pub returns-clause-tears : goal.returns-clause-tears
returns-clause-tears c =
    MayTear-behind-looks c.args.place (length c.args.bytes.now) _ _ _ c.pass.ensures.looks (MayTear-wrote c.pass.new.self c.keep.new.self c.args.place c.args.bytes.now c.keep.ensures)
