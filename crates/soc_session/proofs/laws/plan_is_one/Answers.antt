use Rattle.soc_session.proofs.LawLemmas.{one_plan}
use Rattle.soc_session.proofs.laws.plan_is_one.Goals as goal

pub returns : goal.returns
returns c = one_plan
