use Rattle.soc_lives.proofs.Places.{accepts_once}
use Rattle.soc_lives.proofs.Repeats.{repeated}
use Rattle.soc_lives.proofs.Settling.{doubts_once}
use Rattle.soc_lives.proofs.laws.repeats_act_once.Goals as goal

pub returns : goal.returns
returns c = record { accepts = accepts_once; settles = doubts_once; repeated = repeated }
