use Rattle.std.proofs.Common.{sym, subst}
use Rattle.soc_search.specs.inner.Leaders.{IsBar}
use Rattle.soc_search.proofs.LeaderLemmas.{led_cut}
use Rattle.soc_search.proofs.leaders.Leaders.terms.Goals as goal

pub invariant_of-self-2 : goal.invariant_of-self-2
invariant_of-self-2 c =
    subst (IsBar c.self.inside.bar) (sym (led_cut c.self.inside.size c.self.inside.kept.items c.cut.new.kept.items c.in_ok-cut.ensures.ok)) c.self.invariant
