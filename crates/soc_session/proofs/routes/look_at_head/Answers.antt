use Rattle.std.proofs.Common.{sym, ap, ◌∙◌, None, refl}
use Rattle.soc_session.specs.Plan.{says}
use Rattle.soc_session.specs.Replies.{no_route, unknown_token}
use Rattle.soc_session.specs.inner.Plans.{message_of}
use Rattle.soc_session.proofs.IntakeLemmas.{Awaits-for, Awaits-refused}
use Rattle.soc_session.proofs.PlanLemmas.{Plans-at, Plans-for}
use Rattle.soc_session.proofs.routes.look_at_head.Goals as goal

pub returns-in-Err-NoRoute : goal.returns-in-Err-NoRoute
returns-in-Err-NoRoute c =
    let is = rw c.in-Err-NoRoute.field-0-is at c.in-Err-NoRoute.ensures in
    Awaits-refused c.args.rules.now c.args.head.now c.line.result c.passing.result (says no_route) c.line.ensures
    (λ body. Plans-at c.args.rules.now (message_of c.args.head.now body) _ _ _ is (refl, refl))
    c.passing.ensures

pub returns-in-Err-WrongVerb : goal.returns-in-Err-WrongVerb
returns-in-Err-WrongVerb c =
    let is = rw c.in-Err-WrongVerb.field-0-is at c.in-Err-WrongVerb.ensures in
    λ body. Plans-at c.args.rules.now (message_of c.args.head.now body) _ _ _ is (refl, ap says c.wrong_method.ensures)

pub returns-in_default : goal.returns-in_default
returns-in_default c =
    Awaits-refused c.args.rules.now c.args.head.now c.line-in_default.result c.passing-in_default.result (says unknown_token) c.line-in_default.ensures
    (λ body. Plans-for c.args.rules.now (message_of c.args.head.now body) _ _ c.in-Ok.route None c.in-Ok.ensures
    (sym c.in_default.is ∙ c.in_ok-caller.ensures) (refl, refl))
    c.passing-in_default.ensures

pub returns : goal.returns
returns c =
    Awaits-for c.args.rules.now c.in-Ok.route c.in-Some.caller c.args.head.now c.look_at_route.result c.in-Ok.ensures
    (sym c.in-Some.is ∙ c.in_ok-caller.ensures) c.look_at_route.ensures
