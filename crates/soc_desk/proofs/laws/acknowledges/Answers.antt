use Rattle.soc_desk.proofs.Lasting as Lasting
use Rattle.soc_desk.proofs.laws.acknowledges.Goals as goal

pub returns : goal.returns
returns c = Lasting.acknowledges
