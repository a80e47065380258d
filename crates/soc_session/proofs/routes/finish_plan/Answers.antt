use Rattle.std.proofs.Common.{Ok, refl}
use Rattle.soc_session.specs.Plan.{Plans}
use Rattle.soc_session.specs.inner.Plans.{plan_text}
use Rattle.soc_session.proofs.PlanLemmas.{Draws-none, Draws-submitted}
use Rattle.soc_session.proofs.routes.finish_plan.Goals as goal

pub returns-in-Decided : goal.returns-in-Decided
returns-in-Decided g c = λ message says.
    let plans = rw c.in-Decided.is at says in
    Draws-none (Plans c.args.rules.now message) _ (Ok c.in-Decided.plan) (plan_text c.in-Decided.plan) plans refl

pub returns-in-Submitted : goal.returns-in-Submitted
returns-in-Submitted g c = λ message says.
    let holds = rw c.in-Submitted.is at says in
    Draws-submitted c.args.rules.now message _ _ c.plan.result holds.0 (c.plan.ensures message holds.1)
