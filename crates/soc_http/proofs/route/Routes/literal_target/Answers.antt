use Rattle.std.proofs.Common.{refl, sym, ap, ◌∙◌}
use Rattle.matchit.specs.Router.{map_key}
use Rattle.soc_http.specs.Route.{literals}
use Rattle.soc_http.proofs.RouterLemmas.{found_is}
use Rattle.soc_http.proofs.route.Routes.literal_target.Goals as goal

pub returns-in-Ok : goal.returns-in-Ok
returns-in-Ok c =
    sym (found_is _ literals c.args.path.now c.self.invariant refl) ∙ ap (map_key (λ r. r.value)) c.in-Ok.ensures.found

pub returns-in-Err : goal.returns-in-Err
returns-in-Err c =
    sym (found_is _ literals c.args.path.now c.self.invariant refl) ∙ ap (map_key (λ r. r.value)) c.in-Err.ensures.missing
