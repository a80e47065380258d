use Rattle.soc_hall.proofs.Meets.{meets}
use Rattle.soc_hall.proofs.meet.Hall+T.meet.Goals as goal

pub returns-clause-longer : goal.returns-clause-longer
returns-clause-longer g c = meets c.args.a.chair.me.0 c.args.b.chair.me.0 c.tell.new.teller.me.0 c.tell.new.hearer.me.0 c.tell-2.new.hearer.me.0 c.tell-2.new.teller.me.0 c.tell.ensures.teller.1 c.tell.ensures.hears c.tell-2.ensures.teller.1 c.tell-2.ensures.hears
