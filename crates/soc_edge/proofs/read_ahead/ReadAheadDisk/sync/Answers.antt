use Rattle.soc_edge.proofs.Windows.{Looks-seen}
use Rattle.soc_edge.proofs.read_ahead.ReadAheadDisk.sync.Goals as goal

pub returns-clause-looks : goal.returns-clause-looks
returns-clause-looks g c = Looks-seen g.D.Disk.state _ _ c.self.view_is _ _ c.sync.ensures.looks
