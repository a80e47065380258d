use Rattle.std.proofs.Common.{◌≡◌, ◌++◌}
use Rattle.soc_http.specs.Lines.{lines_named}
use Rattle.soc_http.proofs.lines.lines_named.Given as goal

-- those that were taken, and those that are left
abbrev pub invariant-loop-line_name : goal.invariant-loop-line_name
invariant-loop-line_name l = l.named ++ lines_named l.name l.line_name-iterator ≡ lines_named l.name l.lines
