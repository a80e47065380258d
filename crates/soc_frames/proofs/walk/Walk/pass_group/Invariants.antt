use Rattle.std.proofs.Common.{◌≡◌, ◌+◌, ◌-◌, ◌≤◌, false, List, [], length}
use Rattle.soc_frames.specs.Depth.{Bracket, open_after, is_outer}
use Rattle.soc_frames.specs.inner.Counts.{depth_of}
use Rattle.soc_frames.specs.inner.Walks.{rest_of, behind}
use Rattle.soc_frames.proofs.walk.Walk.pass_group.Given as goal

-- what stands open, which the depth counts
abbrev pub invariant-loop-place : goal.invariant-loop-place
invariant-loop-place l = record {
  brackets : List Bracket;
  counts : l.depth ≡ depth_of brackets;
  inside : is_outer brackets ≡ false;
  same : behind brackets (rest_of l.self) ≡ behind (open_after [] l.fn.opener) (rest_of l.initial.self);
  text : l.self.text ≡ l.initial.self.text;
  onward : l.initial.self.place ≤ l.self.place;
  within : l.self.place ≤ length l.self.text.now;
  bound : l.depth.angles + l.depth.rounds ≤ l.self.place;
}

abbrev pub decreases-loop-place : goal.decreases-loop-place
decreases-loop-place l = length l.self.text.now - l.self.place
