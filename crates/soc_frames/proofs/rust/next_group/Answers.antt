use Rattle.std.proofs.Common.{◌≡◌, ℕ, ◌+◌, ◌++◌, true, false, Bor, List, length, drop, refl, ap, sym, ◌∙◌, arith}
use Rattle.soc_frames.specs.declared.walk.Walk.{Walk}
use Rattle.soc_frames.specs.Rust.{grouped_from, group_length, bytes_of}
use Rattle.soc_frames.specs.inner.Walks.{rest_of, opens_angle}
use Rattle.soc_frames.proofs.BoundaryLemmas.{boundary_along, byte_along, length_along}
use Rattle.soc_frames.proofs.RangeLemmas.{range_none}
use Rattle.soc_frames.proofs.WalkLemmas.{bytes_of-places_from}
use Rattle.soc_frames.proofs.RustLemmas.{grouped_byte, grouped_group, opens_byte}
use Rattle.soc_frames.proofs.rust.next_group.Goals as goal

rest_bytes : (walk : Walk) (text : Bor (List ℕ)) → walk.text ≡ text → bytes_of (rest_of walk) ≡ drop walk.place text.now
rest_bytes walk text same = bytes_of-places_from _ walk.plain (drop walk.place walk.text.now) ∙ ap (λ (t : Bor (List ℕ)). drop walk.place t.now) same

pub places-init : goal.places-init
places-init c =
    let walk = c.args.walk.now in
    record {
      text = refl;
      onward = omega arith;
      within = c.requires;
      same = ap (λ (t : List ℕ). t ++ grouped_from false 0 (rest_of walk)) (sym (range_none walk.text.now walk.place));
    }

pub pass_angles-requires-clause-within : goal.pass_angles-requires-clause-within
pass_angles-requires-clause-within c =
    let t = c.in_ok-place.ensures.turn in
    let len : length c.step.new.self.text.now ≡ length c.places.walk.text.now = length_along c.places.walk.text c.step.new.self.text t.text in
    omega (arith, t.within)

pub pass_angles-requires-clause-passed : goal.pass_angles-requires-clause-passed
pass_angles-requires-clause-passed c = omega (arith, c.in_ok-place.ensures.turn.next)

pub returns-then-opens_angle : goal.returns-then-opens_angle
returns-then-opens_angle c =
    let i = c.places.invariant in
    let t = c.in_ok-place.ensures.turn in
    let g = c.pass_angles.ensures in
    let place = c.in_ok-place.place in
    let old = c.places.walk in
    let text = c.args.walk.now.text in
    let opened : opens_angle place ≡ true = sym c.opens_angle.ensures ∙ c.if-opens_angle.true in
    let same_text = t.text ∙ i.text in
    let len : length c.step.new.self.text.now ≡ length text.now = length_along text c.step.new.self.text same_text in
    let next : c.pass_angles.new.walk.place ≡ old.place + 1 + group_length 1 (rest_of c.step.new.self) = omega (arith, g.next, t.next) in
    record {
      onward = i.onward;
      inside = omega (arith, next);
      within = omega (arith, g.within);
      text = g.text ∙ same_text;
      rest = grouped_group _ text.now _ old.place c.pass_angles.new.walk.place _ _ _ place opened t.rest (rest_bytes old text i.text) next g.rest i.same;
      bracket = byte_along text old.text old.place _ i.text t.byte ∙ opens_byte place opened;
      boundary = boundary_along text c.step.new.self.text c.pass_angles.new.walk.place same_text g.boundary;
    }

pub places-preserved : goal.places-preserved
places-preserved c =
    let i = c.places.invariant in
    let t = c.in_ok-place.ensures.turn in
    let place = c.in_ok-place.place in
    let old = c.places.walk in
    let text = c.args.walk.now.text in
    let plain : opens_angle place ≡ false = sym c.opens_angle.ensures ∙ c.if-opens_angle.false in
    let len : length old.text.now ≡ length text.now = length_along text old.text i.text in
    let len2 : length c.step.new.self.text.now ≡ length old.text.now = length_along old.text c.step.new.self.text t.text in
    record {
      text = t.text ∙ i.text;
      onward = omega (arith, i.onward, t.next);
      within = omega (arith, t.within);
      same = grouped_byte _ text.now _ old.place c.step.new.self.place _ _ place i.onward (omega (arith, t.within, t.next)) (byte_along text old.text old.place _ i.text t.byte) t.next plain t.rest i.same;
    }
