use Rattle.soc_lives.proofs.Places as Places
use Rattle.soc_lives.proofs.laws.acknowledged_stays.Goals as goal

pub returns : goal.returns
returns c = Places.acknowledged_stays
