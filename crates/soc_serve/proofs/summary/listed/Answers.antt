use Rattle.soc_serve.proofs.Pushed.{listed_more, listed_over}
use Rattle.soc_serve.proofs.summary.listed.Goals as goal

pub loop-term-preserved : goal.loop-term-preserved
loop-term-preserved c =
    listed_more (λ term. term.now) c.loop-term.list.items c.push.new.self.items c.args.terms.now c.loop-term.term-index _ c.loop-term-test.true c.term-item.is c.in_ok-push.ensures.items c.loop-term.invariant

pub returns : goal.returns
returns c = listed_over (λ term. term.now) c.loop-term.list.items c.args.terms.now c.loop-term.term-index c.loop-term-test.false c.loop-term.invariant
