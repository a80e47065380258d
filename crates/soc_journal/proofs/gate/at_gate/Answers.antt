use Rattle.soc_journal.proofs.Gates.{found_cut, found_bad}
use Rattle.soc_journal.proofs.gate.at_gate.Goals as goal

pub returns-in-Cut-clause-found : goal.returns-in-Cut-clause-found
returns-in-Cut-clause-found g c = found_cut c.args.version c.args.place c.args.end (g.D.Disk.state c.args.disk.now).content _ c.in_ok-front_at.ensures.front c.in-Cut.is

pub returns-else-counts-clause-found : goal.returns-else-counts-clause-found
returns-else-counts-clause-found g c =
    found_bad c.args.version c.args.place c.args.end (g.D.Disk.state c.args.disk.now).content _ c.in_ok-front_at.ensures.front c.in-Head.kind c.in-Head.length c.in-Head.is c.if-counts.ensures.1
