use Rattle.std.proofs.Common.{◌≡◌, ◌+◌, length, if◌then◌else◌}
use Rattle.soc_http.specs.Request.{values_of}
use Rattle.soc_http.proofs.lines.is_repeated.Given as goal

-- the one that was found, and those that are left
abbrev pub invariant-loop-line_name : goal.invariant-loop-line_name
invariant-loop-line_name l =
    (if l.found then 1 else 0) + length (values_of l.name l.line_name-iterator) ≡ length (values_of l.name l.lines)
