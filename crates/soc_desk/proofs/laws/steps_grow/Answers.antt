use Rattle.soc_desk.proofs.Steps.{steps_grow}
use Rattle.soc_desk.proofs.laws.steps_grow.Goals as goal

pub returns : goal.returns
returns c = steps_grow
