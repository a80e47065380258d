use Rattle.std.proofs.Common.{◌≡◌, ◌-◌, ◌≤◌, ◌++◌, false, length, drop}
use Rattle.std.specs.Prelude.{string_bytes}
use Rattle.std.specs.Str.{IsCharBoundary}
use Rattle.soc_frames.specs.Cpp.{spaced, spaced_from}
use Rattle.soc_frames.proofs.spaces.put_spaces_right.Given as goal

-- what was put right, and the rest
abbrev pub invariant-loop-from : goal.invariant-loop-from
invariant-loop-from l = record {
  within : l.from ≤ length l.name;
  same : spaced l.name ≡ string_bytes l.out ++ spaced_from false (drop l.from l.name);
  boundary : IsCharBoundary l.name l.from;
}

abbrev pub decreases-loop-from : goal.decreases-loop-from
decreases-loop-from l = length l.name - l.from
