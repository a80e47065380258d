use Rattle.std.proofs.Common.{◌≡◌, ◌-◌, ◌≤◌, ◌++◌, false, length, take, drop}
use Rattle.std.specs.Prelude.{string_bytes}
use Rattle.std.specs.Str.{IsCharBoundary}
use Rattle.soc_frames.specs.Rust.{grouped, grouped_from}
use Rattle.soc_frames.specs.inner.Walks.{rest_of}
use Rattle.soc_frames.proofs.rust.group_name.Given as goal

-- what was written, what stands behind it, and the text of the rest
abbrev pub invariant-groups : goal.invariant-groups
invariant-groups l = record {
  text : l.walk.text.now ≡ l.name;
  onward : l.kept ≤ l.walk.place;
  within : l.walk.place ≤ length l.name;
  same : grouped l.name ≡ (string_bytes l.out ++ take (l.walk.place - l.kept) (drop l.kept l.name)) ++ grouped_from false 0 (rest_of l.walk);
  boundary : IsCharBoundary l.name l.kept;
}

abbrev pub decreases-groups : goal.decreases-groups
decreases-groups l = length l.name - l.walk.place
