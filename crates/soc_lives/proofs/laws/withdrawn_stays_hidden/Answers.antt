use Rattle.soc_lives.proofs.Withdrawn as Withdrawn
use Rattle.soc_lives.proofs.laws.withdrawn_stays_hidden.Goals as goal

pub returns : goal.returns
returns c = Withdrawn.withdrawn_stays_hidden
