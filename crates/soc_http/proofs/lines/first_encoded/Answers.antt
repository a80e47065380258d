use Rattle.std.proofs.Common.{◌∙◌, sym}
use Rattle.soc_http.proofs.LineLemmas.{encoded-hit, encoded-miss}
use Rattle.soc_http.proofs.lines.first_encoded.Goals as goal

pub returns-then-encodes : goal.returns-then-encodes
returns-then-encodes c =
    encoded-hit (c.in-Some.name.now, c.in-Some.value.now) c.loop-name.name-iterator c.next.new.self _ c.in-Some.ensures.steps
    (sym c.encodes.ensures ∙ c.if-encodes.true) c.loop-name.invariant

pub loop-name-preserved : goal.loop-name-preserved
loop-name-preserved c =
    encoded-miss (c.in-Some.name.now, c.in-Some.value.now) c.loop-name.name-iterator c.next.new.self _ c.in-Some.ensures.steps
    (sym c.encodes.ensures ∙ c.if-encodes.false) c.loop-name.invariant
