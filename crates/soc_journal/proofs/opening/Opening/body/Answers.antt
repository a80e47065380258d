use Rattle.soc_journal.proofs.Bodies.{body_told}
use Rattle.soc_journal.proofs.opening.Opening.body.Goals as goal

pub returns-clause-body : goal.returns-clause-body
returns-clause-body g c = body_told (g.D.Disk.state c.args.disk.now).content c.args.mark.now.place c.args.mark.now.length _ c.body_at.ensures.gives
