use Rattle.std.proofs.Common.{length}
use Rattle.soc_edge.proofs.Untold.{MayTear-untold}
use Rattle.soc_edge.proofs.counted.CountedDisk.write_at.Goals as goal

pub returns-clause-tears : goal.returns-clause-tears
returns-clause-tears g c =
    MayTear-untold c.args.self.now.calls c.args.self.now.faults.count c.saturating_add-self.result c.counted.new.self.count c.counted.ensures.never_falls
    c.args.place (length c.args.bytes.now)
