use Rattle.std.proofs.Common.{◌≤◌, ◌<◌, sym, ◌∙◌, ⊎_elim}
use Rattle.std.proofs.lemmas.Bool.{cases_lt, lt-ltb, true≢false}
use Rattle.soc_search.proofs.LeaderLemmas.{led_passed}
use Rattle.soc_search.proofs.leaders.Leaders.wants.Goals as goal

pub returns-clause-none : goal.returns-clause-none
returns-clause-none c =
    λ over some v.
    let bar = c.self.inside.bar in
    let under : c.args.count ≤ bar = ⊎_elim (λ (lt : bar < c.args.count). absurd (true≢false (sym (lt-ltb bar c.args.count lt) ∙ over))) (λ (le : c.args.count ≤ bar). le) (cases_lt bar c.args.count) in
    led_passed bar c.self.inside.size c.self.inside.kept.items v c.args.count c.args.self.now c.self.view_is c.self.invariant some under
