use Rattle.std.proofs.Common.{◌≡◌}
use Rattle.soc_http.specs.Request.{values_of}
use Rattle.soc_http.proofs.lines.first_named.Given as goal

-- the values that are left are all
abbrev pub invariant-loop-line_name : goal.invariant-loop-line_name
invariant-loop-line_name l = values_of l.name l.line_name-iterator ≡ values_of l.name l.lines
