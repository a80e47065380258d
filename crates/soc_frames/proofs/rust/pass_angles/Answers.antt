use Rattle.std.proofs.Common.{◌≡◌, ℕ, ◌+◌, ◌-◌, ◌<◌, length, drop, nat_eq, refl, ap, ◌∙◌, arith}
use Rattle.soc_frames.specs.declared.walk.Walk.{Walk}
use Rattle.soc_frames.specs.Rust.{group_length}
use Rattle.soc_frames.specs.inner.Walks.{rest_of}
use Rattle.soc_frames.proofs.BoundaryLemmas.{boundary_after, boundary_end, length_along}
use Rattle.soc_frames.proofs.RangeLemmas.{drop_none}
use Rattle.soc_frames.proofs.RustLemmas.{group_ends, group_goes_on, group_at_end, left_turn, stands, closes_ascii}
use Rattle.soc_frames.proofs.rust.pass_angles.Goals as goal

pub places-init : goal.places-init
places-init c =
    record {
      text = refl;
      onward = omega arith;
      within = c.requires.within;
      inside = omega arith;
      bound = omega (arith, c.requires.passed);
      left = drop_none (rest_of c.args.walk.now) c.args.walk.now.place;
      same = refl;
    }

pub depth_after-depth-requires : goal.depth_after-depth-requires
depth_after-depth-requires c = omega (arith, c.places.invariant.bound, c.in-Some.ensures.turn.next, c.in-Some.ensures.bound)

pub returns-then-depth-eq0 : goal.returns-then-depth-eq0
returns-then-depth-eq0 c =
    let i = c.places.invariant in
    let t = c.in-Some.ensures.turn in
    let whole = rest_of c.args.walk.now in
    let passed = c.places.walk.place - c.args.walk.now.place in
    let one : group_length c.places.depth (rest_of c.places.walk) ≡ 1 =
    group_ends c.places.depth c.depth_after-depth.result _ _ c.in-Some.place t.rest c.depth_after-depth.ensures.value (ap (λ (n : ℕ). nat_eq n 0) c.if-depth-eq0.true) in
    let len : length c.places.walk.text.now ≡ length c.args.walk.now.text.now = length_along c.args.walk.now.text c.places.walk.text i.text in
    let size : passed + 1 ≡ group_length 1 whole = omega (arith, i.same, i.onward) in
    record {
      rest = left_turn whole _ _ c.in-Some.place passed i.left t.rest ∙ ap (λ (n : ℕ). drop n whole) size;
      next = omega (arith, i.same, t.next);
      text = t.text ∙ i.text;
      within = omega (arith, t.within);
      boundary = λ utf8. boundary_after c.args.walk.now.text c.places.walk.text _ _ _ i.text t.next t.within t.byte (closes_ascii c.places.depth c.depth_after-depth.result c.in-Some.place i.inside c.depth_after-depth.ensures.value c.if-depth-eq0.true) utf8;
    }

pub places-preserved : goal.places-preserved
places-preserved c =
    let i = c.places.invariant in
    let t = c.in-Some.ensures.turn in
    let whole = rest_of c.args.walk.now in
    let passed = c.places.walk.place - c.args.walk.now.place in
    let some : 0 < c.depth_after-depth.result = omega (arith, c.if-depth-eq0.false) in
    let more : group_length c.places.depth (rest_of c.places.walk) ≡ group_length c.depth_after-depth.result (rest_of c.step.new.self) + 1 =
    group_goes_on c.places.depth c.depth_after-depth.result _ _ c.in-Some.place t.rest c.depth_after-depth.ensures.value (stands c.depth_after-depth.result some) in
    let len : length c.step.new.self.text.now ≡ length c.places.walk.text.now = length_along c.places.walk.text c.step.new.self.text t.text in
    let size : passed + 1 ≡ c.step.new.self.place - c.args.walk.now.place = omega (arith, t.next, i.onward) in
    record {
      text = t.text ∙ i.text;
      onward = omega (arith, i.onward, t.next);
      within = omega (arith, t.within);
      inside = some;
      bound = omega (arith, i.bound, t.next, c.depth_after-depth.ensures.bound);
      left = left_turn whole _ _ c.in-Some.place passed i.left t.rest ∙ ap (λ (n : ℕ). drop n whole) size;
      same = omega (arith, i.same, t.next);
    }

pub returns : goal.returns
returns c =
    let i = c.places.invariant in
    let end = c.in_default.ensures.turn in
    let whole = rest_of c.args.walk.now in
    let none : group_length c.places.depth (rest_of c.places.walk) ≡ 0 = group_at_end c.places.depth _ end.nothing in
    let place : c.step.new.self.place ≡ c.places.walk.place = ap (λ (walk : Walk). walk.place) end.same in
    let len : length c.places.walk.text.now ≡ length c.args.walk.now.text.now = length_along c.args.walk.now.text c.places.walk.text i.text in
    let size : c.places.walk.place - c.args.walk.now.place ≡ group_length 1 whole = omega (arith, i.same, i.onward) in
    record {
      rest = ap rest_of end.same ∙ i.left ∙ ap (λ (n : ℕ). drop n whole) size;
      next = omega (arith, i.same, i.onward);
      text = ap (λ (walk : Walk). walk.text) end.same ∙ i.text;
      within = omega (arith, i.within);
      boundary = λ utf8. boundary_end c.args.walk.now.text c.places.walk.text _ _ i.text place i.within end.end;
    }
