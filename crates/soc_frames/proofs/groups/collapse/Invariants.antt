use Rattle.std.proofs.Common.{◌≡◌, ◌-◌, ◌≤◌, ◌++◌, length, take, drop}
use Rattle.std.specs.Prelude.{string_bytes}
use Rattle.std.specs.Str.{IsCharBoundary}
use Rattle.soc_frames.specs.Collapse.{collapsed}
use Rattle.soc_frames.specs.inner.Walks.{rest_of}
use Rattle.soc_frames.proofs.GroupLemmas.{kept_of}
use Rattle.soc_frames.proofs.groups.collapse.Given as goal

-- what was written, what stands behind it outside of brackets, and what is kept of the rest
abbrev pub invariant-places : goal.invariant-places
invariant-places l = record {
  text : l.walk.text.now ≡ l.s;
  onward : l.kept ≤ l.walk.place;
  within : l.walk.place ≤ length l.s;
  same : collapsed l.s ≡ (string_bytes l.out ++ take (l.walk.place - l.kept) (drop l.kept l.s)) ++ kept_of (rest_of l.walk);
  boundary : IsCharBoundary l.s l.kept;
}

abbrev pub decreases-places : goal.decreases-places
decreases-places l = length l.s - l.walk.place
