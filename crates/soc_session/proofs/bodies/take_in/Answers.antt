use Rattle.std.proofs.Common.{Ok, ap, ◌∙◌}
use Rattle.soc_session.specs.inner.Intakes.{IsOfForm, IsSaid}
use Rattle.soc_session.proofs.TakeLemmas.{TakesBody-of, TakesBody-then}
use Rattle.soc_session.proofs.bodies.take_in.Goals as goal

pub returns-in_ok-said-in-Ok-Feeds-clause-takes : goal.returns-in_ok-said-in-Ok-Feeds-clause-takes
returns-in_ok-said-in-Ok-Feeds-clause-takes g c =
    let boundary = c.in-Ok-Feeds.form.boundary in
    TakesBody-of c.args.intake c.in-Ok-Feeds.form _ _ _ _ c.content_of.result _ (c.in-Ok-Feeds.is ∙ ap Ok c.in-Ok-Feeds.field-0-is)
    (TakesBody-then (IsSaid boundary) (IsOfForm boundary) _ _ _ _ c.in_ok-said-in-Ok-Feeds.said c.content_of.result _ c.in_ok-said-in-Ok-Feeds.ensures.takes c.content_of.ensures.wanting
    (λ body says. c.content_of.ensures.of boundary body says))
