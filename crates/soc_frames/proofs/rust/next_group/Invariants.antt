use Rattle.std.proofs.Common.{◌≡◌, ◌-◌, ◌≤◌, ◌++◌, false, length, take, drop}
use Rattle.soc_frames.specs.Rust.{grouped_from}
use Rattle.soc_frames.specs.inner.Walks.{rest_of}
use Rattle.soc_frames.proofs.rust.next_group.Given as goal

-- no group so far
abbrev pub invariant-places : goal.invariant-places
invariant-places l = record {
  text : l.walk.text ≡ l.initial.walk.text;
  onward : l.initial.walk.place ≤ l.walk.place;
  within : l.walk.place ≤ length l.walk.text.now;
  same : grouped_from false 0 (rest_of l.initial.walk)
      ≡ take (l.walk.place - l.initial.walk.place) (drop l.initial.walk.place l.initial.walk.text.now) ++ grouped_from false 0 (rest_of l.walk);
}

abbrev pub decreases-places : goal.decreases-places
decreases-places l = length l.walk.text.now - l.walk.place
