use Rattle.std.proofs.Common.{◌≡◌, ◌-◌, ◌≤◌, [], length, drop}
use Rattle.std.specs.Str.{IsUtf8, IsCharBoundary}
use Rattle.soc_frames.specs.Depth.{nested_from}
use Rattle.soc_frames.specs.Cpp.{behind_spaces}
use Rattle.soc_frames.specs.inner.Walks.{rest_of, behind_or}
use Rattle.soc_frames.proofs.cpp.name_start.Given as goal

-- the answer, if no space comes any more
abbrev pub invariant-places : goal.invariant-places
invariant-places l = record {
  text : l.walk.text.now ≡ l.name;
  within : l.walk.place ≤ length l.name;
  same : behind_spaces l.name ≡ behind_or (drop l.start l.name) (nested_from [] (rest_of l.walk));
  boundary : IsUtf8 l.name → IsCharBoundary l.name l.start;
}

abbrev pub decreases-places : goal.decreases-places
decreases-places l = length l.name - l.walk.place
