use Rattle.std.proofs.Common.{ap, refl}
use Rattle.soc_edge.proofs.Disks.{Looks-none}
use Rattle.soc_edge.proofs.Windows.{read_covered, Looks-seen}
use Rattle.soc_edge.proofs.read_ahead.ReadAheadDisk.read_at.Goals as goal

pub returns-then-covers-clause-bytes : goal.returns-then-covers-clause-bytes
returns-then-covers-clause-bytes g c =
    read_covered (g.D.Disk.state c.self.inside.disk).content _ (ap (λ a. (g.D.Disk.state a.disk).content) c.self.view_is)
    c.self.inside.window.from c.self.inside.window.held c.self.inside.window.bytes.items c.self.invariant c.args.place _ _ _ (c.if-covers.ensures.0 refl) c.copy_to.auto.into c.copy_to.ensures.reads

pub returns-then-covers-clause-looks : goal.returns-then-covers-clause-looks
returns-then-covers-clause-looks g c = Looks-seen g.D.Disk.state _ _ c.self.view_is _ _ (Looks-none _ (g.met.D.Disk.sound c.self.inside.disk))

pub returns-then-into-gt-WINDOW-clause-looks : goal.returns-then-into-gt-WINDOW-clause-looks
returns-then-into-gt-WINDOW-clause-looks g c = Looks-seen g.D.Disk.state _ _ c.self.view_is _ _ c.read_at.ensures.looks

pub returns-clause-looks : goal.returns-clause-looks
returns-clause-looks g c = Looks-seen g.D.Disk.state _ _ c.self.view_is _ _ c.read.ensures.looks
