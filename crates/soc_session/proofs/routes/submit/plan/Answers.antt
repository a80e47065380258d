use Rattle.soc_forms.specs.SubmissionViews.{submission_text}
use Rattle.soc_session.specs.inner.Plans.{drawn_of}
use Rattle.soc_session.proofs.PlanLemmas.{Draws-one}
use Rattle.soc_session.proofs.routes.submit.plan.Goals as goal

pub returns : goal.returns
returns g c = λ message holds.
    Draws-one c.args.rules.now message (submission_text c.args.said) (drawn_of c.draw-drawing.result) _ _ c.decide.result holds c.draw-drawing.ensures.range c.draw-drawing.ensures.hands c.decide.ensures
