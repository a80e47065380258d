use Rattle.soc_lives.proofs.Carried as Carried
use Rattle.soc_lives.proofs.laws.opens_life.Goals as goal

pub returns : goal.returns
returns c = Carried.opens_life
