use Rattle.soc_desk.proofs.Unseen.{hides}
use Rattle.soc_desk.proofs.laws.hides_crashes.Goals as goal

pub returns : goal.returns
returns c = hides
