use Rattle.std.proofs.Common.{sym, subst, ◌∙◌}
use Rattle.soc_http.specs.Route.{IsRouteOf}
use Rattle.soc_session.proofs.IntakeLemmas.{found-else, found-none}
use Rattle.soc_session.proofs.routes.find.Goals as goal

pub returns-then-lacks_page : goal.returns-then-lacks_page
returns-then-lacks_page c = found-none c.args.rules.now c.args.head.now (sym c.lacks_page.ensures ∙ c.if-lacks_page.true)

pub returns : goal.returns
returns c =
    found-else c.args.rules.now c.args.head.now c.find.result (sym c.lacks_page.ensures ∙ c.if-lacks_page.false)
    (subst (λ p. IsRouteOf c.args.head.now.verb p c.find.result) c.as_str.ensures c.find.ensures)
