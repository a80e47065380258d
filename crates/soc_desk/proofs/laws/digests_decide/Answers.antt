use Rattle.soc_desk.proofs.Digests.{digests_decide}
use Rattle.soc_desk.proofs.laws.digests_decide.Goals as goal

pub returns : goal.returns
returns c = digests_decide
