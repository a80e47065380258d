use Rattle.std.proofs.Common.{◌≡◌, ℕ, ◌++◌, true, false, Bor, List, length, ap, sym, ◌∙◌, arith}
use Rattle.std.specs.Prelude.{string_bytes}
use Rattle.std.proofs.lemmas.Str.{IsCharBoundary-start}
use Rattle.soc_frames.specs.Depth.{places_of}
use Rattle.soc_frames.specs.inner.Walks.{rest_of, opens}
use Rattle.soc_frames.proofs.BoundaryLemmas.{boundary_in, boundary_before, byte_in}
use Rattle.soc_frames.proofs.GroupLemmas.{kept_start, kept_byte, kept_group, kept_end, opens_ascii}
use Rattle.soc_frames.proofs.groups.collapse.Goals as goal

pub places-init : goal.places-init
places-init c =
    let value = c.as_bytes.ensures.value in
    record {
      text = c.over-walk.ensures.text ∙ value;
      onward = omega arith;
      within = omega (arith, c.over-walk.ensures.place);
      same = kept_start c.args.s.now (string_bytes c.new-out.result) c.over-walk.result.place (rest_of c.over-walk.result) c.new-out.ensures.bytes c.over-walk.ensures.place (c.over-walk.ensures.rest ∙ ap places_of value);
      boundary = IsCharBoundary-start c.args.s.now c.utf8.s;
    }

pub range_from-requires : goal.range_from-requires
range_from-requires c = λ some. c.places.invariant.boundary

pub returns-in_default : goal.returns-in_default
returns-in_default c =
    let i = c.places.invariant in
    let end = c.in_default.ensures in
    let len : length c.places.walk.text.now ≡ length c.args.s.now = ap (λ (t : List ℕ). length t) i.text in
    kept_end _ c.args.s.now (string_bytes c.places.out) _ c.places.kept c.places.walk.place (rest_of c.places.walk) end.nothing (omega (arith, end.end))
    (c.from.ensures ∙ c.in_ok-push_str.ensures.bytes ∙ ap (λ (t : List ℕ). string_bytes c.places.out ++ t) c.range_from.ensures.value) i.same

pub places-smaller-then-not-opens : goal.places-smaller-then-not-opens
places-smaller-then-not-opens c =
    let f = c.in-Some.ensures in
    let len : length c.places.walk.text.now ≡ length c.args.s.now = ap (λ (t : List ℕ). length t) c.places.invariant.text in
    omega (arith, f.onward, f.within)

pub places-smaller : goal.places-smaller
places-smaller c =
    let f = c.in-Some.ensures in
    let len : length c.places.walk.text.now ≡ length c.args.s.now = ap (λ (t : List ℕ). length t) c.places.invariant.text in
    omega (arith, f.onward, f.within)

pub places-preserved-then-not-opens : goal.places-preserved-then-not-opens
places-preserved-then-not-opens c =
    let i = c.places.invariant in
    let f = c.in-Some.ensures in
    let s = c.args.s.now in
    let old = c.places.walk in
    let place = c.in-Some.place in
    let plain : opens place ≡ false = sym c.opens.ensures ∙ c.if-not-opens.true in
    let len : length old.text.now ≡ length s = ap (λ (t : List ℕ). length t) i.text in
    record {
      text = ap (λ (t : Bor (List ℕ)). t.now) f.text ∙ i.text;
      onward = omega (arith, i.onward, f.onward);
      within = omega (arith, f.within);
      same = kept_byte _ s (string_bytes c.places.out) c.places.kept old.place c.next_outer.new.self.place (rest_of old) (rest_of c.next_outer.new.self) f.tail place i.onward (omega (arith, f.onward, f.within)) (byte_in s old.text.now old.place place.byte i.text f.byte) (f.single plain) plain f.here f.rest i.same;
      boundary = i.boundary;
    }

pub range-requires-clause-start_le_end : goal.range-requires-clause-start_le_end
range-requires-clause-start_le_end c = c.places.invariant.onward

pub range-requires-clause-start_boundary : goal.range-requires-clause-start_boundary
range-requires-clause-start_boundary c = λ some. c.places.invariant.boundary

pub range-requires-clause-end_boundary : goal.range-requires-clause-end_boundary
range-requires-clause-end_boundary c =
    let i = c.places.invariant in
    let f = c.in-Some.ensures in
    let s = c.args.s.now in
    let old = c.places.walk in
    let place = c.in-Some.place in
    let opened : opens place ≡ true = sym c.opens.ensures ∙ c.if-not-opens.false in
    let len : length old.text.now ≡ length s = ap (λ (t : List ℕ). length t) i.text in
    boundary_before s old.place place.byte (omega (arith, f.onward, f.within)) (byte_in s old.text.now old.place place.byte i.text f.byte) (opens_ascii place opened)

pub group_text-text-requires : goal.group_text-text-requires
group_text-text-requires c = sym c.opens.ensures ∙ c.if-not-opens.false

pub places-preserved : goal.places-preserved
places-preserved c =
    let i = c.places.invariant in
    let f = c.in-Some.ensures in
    let s = c.args.s.now in
    let old = c.places.walk in
    let new = c.next_outer.new.self in
    let place = c.in-Some.place in
    let opened : opens place ≡ true = sym c.opens.ensures ∙ c.if-not-opens.false in
    let len : length old.text.now ≡ length s = ap (λ (t : List ℕ). length t) i.text in
    record {
      text = ap (λ (t : Bor (List ℕ)). t.now) f.text ∙ i.text;
      onward = omega arith;
      within = omega (arith, f.within);
      same = kept_group _ s (string_bytes c.places.out) (string_bytes c.push_str-in-places.new.self) (string_bytes c.push_str-in-places-2.new.self) c.places.kept old.place new.place (rest_of old) (rest_of new) f.tail place f.here f.rest
          (c.in_ok-push_str-2.ensures.bytes ∙ ap (λ (t : List ℕ). string_bytes c.places.out ++ t) c.range.ensures.value)
          (c.in_ok-push_str-3.ensures.bytes ∙ ap (λ (t : List ℕ). string_bytes c.push_str-in-places.new.self ++ t) c.group_text-text.ensures)
          i.same;
      boundary = boundary_in s old.text.now new.place i.text (λ utf8. f.boundary utf8 (opens_ascii place opened)) c.utf8.s;
    }
