use Rattle.std.proofs.Common.{◌≡◌, codes, find}
use Rattle.soc_http.specs.Lines.{is_encoded}
use Rattle.soc_http.specs.Request.{values_of}
use Rattle.soc_http.proofs.lines.first_encoded.Given as goal

-- what is found is among those that are left
abbrev pub invariant-loop-name : goal.invariant-loop-name
invariant-loop-name l =
    find is_encoded (values_of (codes "content-encoding") l.name-iterator) ≡ find is_encoded (values_of (codes "content-encoding") l.lines)
