use Rattle.std.proofs.Common.{◌≡◌, ℕ, ◌≤◌, length, take}
use Rattle.std.specs.Str.{IsCharBoundary}
use Rattle.soc_frames.specs.Cpp.{trimmed, without_ends}
use Rattle.soc_frames.proofs.cpp.name_end.Given as goal

-- so many ends at most are left
abbrev pub invariant-loop-end : goal.invariant-loop-end
invariant-loop-end l = record {
  most : ℕ;
  enough : l.end ≤ most;
  within : l.end ≤ length l.name;
  same : trimmed l.name ≡ without_ends most (take l.end l.name);
  boundary : IsCharBoundary l.name l.end;
}

abbrev pub decreases-loop-end : goal.decreases-loop-end
decreases-loop-end l = l.end
