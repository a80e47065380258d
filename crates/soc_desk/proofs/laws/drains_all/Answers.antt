use Rattle.soc_desk.proofs.Drained.{drains_all}
use Rattle.soc_desk.proofs.laws.drains_all.Goals as goal

pub returns : goal.returns
returns c = drains_all
