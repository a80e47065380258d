use Rattle.std.proofs.Common.{ap, sym}
use Rattle.soc_search.proofs.FacetLemmas.{term_more}
use Rattle.soc_search.proofs.leaders.terms_of.Goals as goal

pub loop-one-preserved : goal.loop-one-preserved
loop-one-preserved c =
    term_more c.args.kept.now c.loop-one.terms c.push.new.self c.loop-one.one-index c.one-item.result (record { value = c.in_ok-value.value; count = c.one-item.result.count }) c.loop-one-test.true (sym c.one-item.is)
    (ap (λ v. record { value = v; count = c.one-item.result.count }) c.in_ok-value.ensures) c.loop-one.invariant c.in_ok-push.ensures.ok
