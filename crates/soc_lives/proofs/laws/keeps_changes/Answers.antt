use Rattle.soc_lives.proofs.Later as Later
use Rattle.soc_lives.proofs.laws.keeps_changes.Goals as goal

pub returns : goal.returns
returns c = Later.keeps_changes
