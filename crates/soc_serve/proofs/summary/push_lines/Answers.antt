use Rattle.soc_serve.proofs.Pushed.{line_more, lines_over}
use Rattle.soc_serve.proofs.summary.push_lines.Goals as goal

pub loop-term-preserved : goal.loop-term-preserved
loop-term-preserved c =
    line_more (λ term. term.now) c.loop-term.text.items c.push_term.new.text.items _ c.args.terms.now c.loop-term.term-index c.term-item.result c.loop-term-test.true c.term-item.is c.in_ok-push_term.ensures c.loop-term.invariant

pub returns : goal.returns
returns c = lines_over (λ term. term.now) c.loop-term.text.items _ c.args.terms.now c.loop-term.term-index c.loop-term-test.false c.loop-term.invariant
