use Rattle.std.proofs.Common.{◌≡◌, ℕ, Bor, List, [], length, refl, ap, sym, ◌∙◌, arith}
use Rattle.soc_frames.specs.declared.walk.Walk.{Walk}
use Rattle.soc_frames.specs.Depth.{open_after}
use Rattle.soc_frames.specs.inner.Walks.{rest_of}
use Rattle.soc_frames.proofs.BoundaryLemmas.{boundary_after, boundary_end}
use Rattle.soc_frames.proofs.CountLemmas.{depth_of-open_after}
use Rattle.soc_frames.proofs.GroupLemmas.{opens_group, counted, outer_by_count, group_turn, group_end, behind_outer, closes_ascii}
use Rattle.soc_frames.proofs.walk.Walk.pass_group.Goals as goal

pub loop-place-init : goal.loop-place-init
loop-place-init c = record {
  brackets = open_after [] c.args.opener;
  counts = c.after-depth.ensures.counts ∙ sym (depth_of-open_after [] c.args.opener);
  inside = opens_group c.args.opener c.requires.opens;
  same = refl;
  text = refl;
  onward = omega arith;
  within = c.requires.within;
  bound = omega (arith, c.after-depth.ensures.bound, c.requires.passed);
}

pub after-depth-requires-in-Some : goal.after-depth-requires-in-Some
after-depth-requires-in-Some c = omega (arith, c.loop-place.invariant.bound, c.in-Some.ensures.turn.next, c.in-Some.ensures.bound)

pub returns-then-is_none : goal.returns-then-is_none
returns-then-is_none c =
    let i = c.loop-place.invariant in
    let t = c.in-Some.ensures.turn in
    let now = counted i.brackets c.loop-place.depth c.after-depth-in-Some.result c.in-Some.place i.counts c.after-depth-in-Some.ensures.counts in
    let outer = outer_by_count (open_after i.brackets c.in-Some.place) c.after-depth-in-Some.result _ _ now c.is_none.ensures c.if-is_none.true in
    let len : length c.loop-place.self.text.now ≡ length c.args.self.now.text.now = ap (λ (text : Bor (List ℕ)). length text.now) i.text in
    record {
      rest = sym (behind_outer (open_after i.brackets c.in-Some.place) (rest_of c.step.new.self) outer) ∙ group_turn i.brackets _ _ _ c.in-Some.place i.inside t.rest i.same;
      text = t.text ∙ i.text;
      onward = omega (arith, i.onward, t.next);
      within = omega (arith, t.within);
      boundary = λ utf8. boundary_after _ _ _ _ _ i.text t.next t.within t.byte (closes_ascii i.brackets c.in-Some.place i.inside outer) utf8;
    }

pub loop-place-preserved : goal.loop-place-preserved
loop-place-preserved c =
    let i = c.loop-place.invariant in
    let t = c.in-Some.ensures.turn in
    let now = counted i.brackets c.loop-place.depth c.after-depth-in-Some.result c.in-Some.place i.counts c.after-depth-in-Some.ensures.counts in
    let len : length c.step.new.self.text.now ≡ length c.loop-place.self.text.now = ap (λ (text : Bor (List ℕ)). length text.now) t.text in
    record {
      brackets = open_after i.brackets c.in-Some.place;
      counts = now;
      inside = outer_by_count (open_after i.brackets c.in-Some.place) c.after-depth-in-Some.result _ _ now c.is_none.ensures c.if-is_none.false;
      same = group_turn i.brackets _ _ _ c.in-Some.place i.inside t.rest i.same;
      text = t.text ∙ i.text;
      onward = omega (arith, i.onward, t.next);
      within = omega (arith, t.within);
      bound = omega (arith, i.bound, t.next, c.after-depth-in-Some.ensures.bound);
    }

pub returns : goal.returns
returns c =
    let i = c.loop-place.invariant in
    let end = c.in_default.ensures.turn in
    let place : c.step.new.self.place ≡ c.loop-place.self.place = ap (λ (walk : Walk). walk.place) end.same in
    let len : length c.loop-place.self.text.now ≡ length c.args.self.now.text.now = ap (λ (text : Bor (List ℕ)). length text.now) i.text in
    record {
      rest = ap rest_of end.same ∙ end.nothing ∙ group_end i.brackets _ _ end.nothing i.same;
      text = ap (λ (walk : Walk). walk.text) end.same ∙ i.text;
      onward = omega (arith, i.onward);
      within = omega (arith, i.within);
      boundary = λ utf8. boundary_end _ _ _ _ i.text place i.within end.end;
    }
