use Rattle.soc_edge.proofs.Disks.{Looks-append}
use Rattle.soc_journal.proofs.Bodies.{read_body, read_found, read_closed}
use Rattle.soc_journal.proofs.journal.Journal.read.Goals as goal

pub returns-in-Open-clause-body : goal.returns-in-Open-clause-body
returns-in-Open-clause-body g c =
    read_body (g.D.Disk.state c.args.disk.now).content c.args.place c.args.self.now.gate _ c.gate.ensures _ c.in_ok-length.ensures.found _ c.in-Open.length _ _ c.in-Open.is c.at_gate.ensures.disk_stays.same c.body_at.ensures.gives

pub returns-in-Open-clause-found : goal.returns-in-Open-clause-found
returns-in-Open-clause-found g c =
    read_found (g.D.Disk.state c.args.disk.now).content c.args.place c.args.self.now.gate _ c.gate.ensures _ c.in_ok-length.ensures.found _ c.in-Open.length _ _ c.in-Open.is c.at_gate.ensures.disk_stays.same c.body_at.ensures.gives

pub returns-in-Closed-clause-body : goal.returns-in-Closed-clause-body
returns-in-Closed-clause-body g c =
    read_closed (g.D.Disk.state c.args.disk.now).content c.args.place c.args.self.now.gate _ c.gate.ensures _ c.in_ok-length.ensures.found c.in-Closed.is

pub returns-in-Open-clause-disk_stays : goal.returns-in-Open-clause-disk_stays
returns-in-Open-clause-disk_stays g c = Looks-append _ _ _ c.at_gate.ensures.disk_stays c.body_at.ensures.disk_stays
