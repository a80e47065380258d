use Rattle.soc_edge.proofs.Windows.{MayTear-seen}
use Rattle.soc_edge.proofs.read_ahead.ReadAheadDisk.write_at.Goals as goal

pub returns-clause-tears : goal.returns-clause-tears
returns-clause-tears g c = MayTear-seen g.D.Disk.state _ _ c.self.view_is _ _ _ _ c.write_at.ensures.tears
