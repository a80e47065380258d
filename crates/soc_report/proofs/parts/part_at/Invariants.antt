use Rattle.std.proofs.Common.{◌≡◌}
use Rattle.std.specs.Prelude.{slice_get}
use Rattle.std.specs.Str.{IsUtf8}
use Rattle.soc_report.specs.inner.Parts.{parts_of}
use Rattle.soc_report.proofs.parts.part_at.Given as goal

-- the part is as many parts behind what is left
abbrev pub invariant-loop-left : goal.invariant-loop-left
invariant-loop-left l = record {
  utf8 : IsUtf8 l.rest;
  same : slice_get (parts_of l.fn.path) l.fn.place ≡ slice_get (parts_of l.rest) l.left;
}

abbrev pub decreases-loop-left : goal.decreases-loop-left
decreases-loop-left l = l.left
