use Rattle.std.proofs.Common.{◌≡◌, ◌+◌, ◌-◌, ◌<◌, ◌≤◌, length, drop}
use Rattle.soc_frames.specs.Rust.{group_length}
use Rattle.soc_frames.specs.inner.Walks.{rest_of}
use Rattle.soc_frames.proofs.rust.pass_angles.Given as goal

-- how much of the group was passed
abbrev pub invariant-places : goal.invariant-places
invariant-places l = record {
  text : l.walk.text ≡ l.initial.walk.text;
  onward : l.initial.walk.place ≤ l.walk.place;
  within : l.walk.place ≤ length l.walk.text.now;
  inside : 0 < l.depth;
  bound : l.depth ≤ l.walk.place;
  left : rest_of l.walk ≡ drop (l.walk.place - l.initial.walk.place) (rest_of l.initial.walk);
  same : group_length l.depth (rest_of l.walk) + l.walk.place ≡ group_length 1 (rest_of l.initial.walk) + l.initial.walk.place;
}

abbrev pub decreases-places : goal.decreases-places
decreases-places l = length l.walk.text.now - l.walk.place
