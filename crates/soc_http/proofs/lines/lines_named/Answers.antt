use Rattle.std.proofs.Common.{◌∙◌, sym}
use Rattle.soc_http.proofs.LineLemmas.{taken-miss}
use Rattle.soc_http.proofs.lines.lines_named.Goals as goal

pub loop-line_name-preserved : goal.loop-line_name-preserved
loop-line_name-preserved c =
    taken-miss c.args.name.now (c.in-Some.line_name.now, c.in-Some.value.now) c.loop-line_name.named c.loop-line_name.line_name-iterator c.next.new.self _
    c.in-Some.ensures.steps (sym c.is_named.ensures ∙ c.if-is_named.false) c.loop-line_name.invariant
