use Rattle.std.proofs.Common.{◌∙◌, sym}
use Rattle.soc_http.proofs.LineLemmas.{first_of, named-hit, named-miss}
use Rattle.soc_http.proofs.lines.first_named.Goals as goal

pub returns-then-is_named : goal.returns-then-is_named
returns-then-is_named c =
    first_of _ _ _ (named-hit c.args.name.now (c.in-Some.line_name.now, c.in-Some.value.now) c.loop-line_name.line_name-iterator c.next.new.self _ c.in-Some.ensures.steps
    (sym c.is_named.ensures ∙ c.if-is_named.true) c.loop-line_name.invariant)

pub loop-line_name-preserved : goal.loop-line_name-preserved
loop-line_name-preserved c =
    named-miss c.args.name.now (c.in-Some.line_name.now, c.in-Some.value.now) c.loop-line_name.line_name-iterator c.next.new.self _ c.in-Some.ensures.steps
    (sym c.is_named.ensures ∙ c.if-is_named.false) c.loop-line_name.invariant
