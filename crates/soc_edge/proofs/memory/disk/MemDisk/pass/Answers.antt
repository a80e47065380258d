use Rattle.std.proofs.Common.{ap, arith}
use Rattle.soc_edge.specs.Calls.{Calls}
use Rattle.soc_edge.specs.DiskLog.{DiskState}
use Rattle.soc_edge.proofs.DiskKept.{Looks-calls}
use Rattle.soc_edge.proofs.memory.disk.MemDisk.pass.Goals as goal

pub returns-clause-looks : goal.returns-clause-looks
returns-clause-looks c =
    let before = ap (λ (s : DiskState). s.calls.failed) c.self.view_is in
    Looks-calls c.args.self.now _ c.pass.new.self (omega (arith, before, ap (λ (x : Calls). x.failed) c.pass.ensures)) (ap (λ (s : DiskState). record s { calls = c.pass.new.self }) c.self.view_is)
