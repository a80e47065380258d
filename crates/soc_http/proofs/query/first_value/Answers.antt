use Rattle.std.proofs.Common.{◌∙◌, sym}
use Rattle.soc_http.proofs.LineLemmas.{value-hit, value-miss}
use Rattle.soc_http.proofs.query.first_value.Goals as goal

pub returns-then-eq : goal.returns-then-eq
returns-then-eq c =
    value-hit c.args.name.now (c.in-Some.pair_name.now, c.in-Some.value.now) c.loop-pair_name.pair_name-iterator c.next.new.self _ c.in-Some.ensures.steps
    (sym c.eq.ensures ∙ c.if-eq.true) c.loop-pair_name.invariant

pub loop-pair_name-preserved : goal.loop-pair_name-preserved
loop-pair_name-preserved c =
    value-miss c.args.name.now (c.in-Some.pair_name.now, c.in-Some.value.now) c.loop-pair_name.pair_name-iterator c.next.new.self _ c.in-Some.ensures.steps
    (sym c.eq.ensures ∙ c.if-eq.false) c.loop-pair_name.invariant
