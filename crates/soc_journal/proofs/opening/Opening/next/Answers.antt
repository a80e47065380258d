use Rattle.std.proofs.Common.{refl}
use Rattle.soc_journal.proofs.Nexts.{entry_told, gate_told, bad_told}
use Rattle.soc_journal.proofs.opening.Opening.next.Goals as goal

pub returns-in-Open-clause-finds : goal.returns-in-Open-clause-finds
returns-in-Open-clause-finds g c =
    entry_told (g.D.Disk.state c.args.disk.now).content (g.D.Disk.state c.args.disk.now).images (g.D.Disk.state c.at_gate.new.disk).images c.at_gate.ensures.disk_stays.images
    _ _ _ c.self.view_is refl refl _ c.in_ok-kind.ensures.found _ refl refl c.in-Open.is

pub returns-in-Closed-clause-finds : goal.returns-in-Closed-clause-finds
returns-in-Closed-clause-finds g c =
    gate_told (g.D.Disk.state c.args.disk.now).content (g.D.Disk.state c.args.disk.now).images (g.D.Disk.state c.at_gate.new.disk).images c.at_gate.ensures.disk_stays.images
    _ _ _ c.self.view_is refl refl _ c.in_ok-kind.ensures.found refl c.in-Closed.is

pub returns-in-Bad-clause-finds : goal.returns-in-Bad-clause-finds
returns-in-Bad-clause-finds g c =
    bad_told (g.D.Disk.state c.args.disk.now).content (g.D.Disk.state c.args.disk.now).images (g.D.Disk.state c.at_gate.new.disk).images c.at_gate.ensures.disk_stays.images
    _ _ (record { place = c.self.inside.place; length = c.self.inside.length; version = c.self.inside.version; limit = c.self.inside.limit; ended = c.self.inside.ended }) c.self.view_is refl refl _ c.in_ok-kind.ensures.found c.in-Bad.is
