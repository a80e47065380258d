use Rattle.std.proofs.Common.{◌≡◌, ℕ, ◌++◌, Bor, List, length, codes, lit<, ap, ◌∙◌, arith}
use Rattle.std.specs.Prelude.{string_bytes}
use Rattle.std.proofs.lemmas.Str.{IsCharBoundary-start}
use Rattle.std.proofs.lemmas.Str.Pattern.{contains_text}
use Rattle.soc_frames.specs.Depth.{places_of, open_angle}
use Rattle.soc_frames.specs.inner.Walks.{rest_of}
use Rattle.soc_frames.proofs.BoundaryLemmas.{boundary_in, boundary_before, byte_in}
use Rattle.soc_frames.proofs.TextLemmas.{contains_is}
use Rattle.soc_frames.proofs.RustLemmas.{grouped_start, group_stays, group_goes, no_more_groups}
use Rattle.soc_frames.proofs.rust.group_name.Goals as goal

pub groups-init : goal.groups-init
groups-init c =
    let value = c.as_bytes.ensures.value in
    record {
      text = c.over-walk.ensures.text ∙ value;
      onward = omega arith;
      within = omega (arith, c.over-walk.ensures.place);
      same = grouped_start c.args.name.now (string_bytes c.new-out.result) c.over-walk.result.place (rest_of c.over-walk.result) c.new-out.ensures.bytes c.over-walk.ensures.place (c.over-walk.ensures.rest ∙ ap places_of value);
      boundary = IsCharBoundary-start c.args.name.now c.utf8.name;
    }

pub next_group-requires : goal.next_group-requires
next_group-requires c =
    let i = c.groups.invariant in
    let len : length c.groups.walk.text.now ≡ length c.args.name.now = ap (λ (t : List ℕ). length t) i.text in
    omega (arith, i.within)

pub range-requires-clause-start_le_end : goal.range-requires-clause-start_le_end
range-requires-clause-start_le_end c = omega (arith, c.in-Some.ensures.inside)

pub range-requires-clause-start_boundary : goal.range-requires-clause-start_boundary
range-requires-clause-start_boundary c = λ some.
    let i = c.groups.invariant in
    let f = c.in-Some.ensures in
    let name = c.args.name.now in
    let len : length c.groups.walk.text.now ≡ length name = ap (λ (t : List ℕ). length t) i.text in
    boundary_before name c.in-Some.start open_angle (omega (arith, f.inside, f.within)) (byte_in name c.groups.walk.text.now c.in-Some.start open_angle i.text f.bracket) (lit< tt)

pub range-requires-clause-end_boundary : goal.range-requires-clause-end_boundary
range-requires-clause-end_boundary c =
    boundary_in c.args.name.now c.groups.walk.text.now c.next_group.new.walk.place c.groups.invariant.text c.in-Some.ensures.boundary c.utf8.name

pub groups-smaller-then-contains : goal.groups-smaller-then-contains
groups-smaller-then-contains c =
    let f = c.in-Some.ensures in
    let len : length c.groups.walk.text.now ≡ length c.args.name.now = ap (λ (t : List ℕ). length t) c.groups.invariant.text in
    omega (arith, f.onward, f.inside, f.within)

pub groups-smaller : goal.groups-smaller
groups-smaller c =
    let f = c.in-Some.ensures in
    let len : length c.groups.walk.text.now ≡ length c.args.name.now = ap (λ (t : List ℕ). length t) c.groups.invariant.text in
    omega (arith, f.onward, f.inside, f.within)

pub groups-preserved-then-contains : goal.groups-preserved-then-contains
groups-preserved-then-contains c =
    let i = c.groups.invariant in
    let f = c.in-Some.ensures in
    let name = c.args.name.now in
    let old = c.groups.walk in
    let new = c.next_group.new.walk in
    let len : length old.text.now ≡ length name = ap (λ (t : List ℕ). length t) i.text in
    let tested = contains_is c.contains.result (codes " as ") c.range.result.now (contains_text c.contains.result (codes " as ") c.range.result.now c.contains.ensures.cases) in
    record {
      text = ap (λ (t : Bor (List ℕ)). t.now) f.text ∙ i.text;
      onward = omega (arith, i.onward, f.onward, f.inside);
      within = omega (arith, f.within);
      same = group_stays _ name old.text.now (string_bytes c.groups.out) c.range.result.now _ _ c.contains.result c.groups.kept old.place c.in-Some.start new.place i.text i.onward f.onward (omega (arith, f.inside)) c.range.ensures.value tested c.if-contains.true i.same f.rest;
      boundary = i.boundary;
    }

pub range-requires-in-Some-clause-start_le_end : goal.range-requires-in-Some-clause-start_le_end
range-requires-in-Some-clause-start_le_end c = omega (arith, c.groups.invariant.onward, c.in-Some.ensures.onward)

pub range-requires-in-Some-clause-start_boundary : goal.range-requires-in-Some-clause-start_boundary
range-requires-in-Some-clause-start_boundary c = λ some. c.groups.invariant.boundary

pub range-requires-in-Some-clause-end_boundary : goal.range-requires-in-Some-clause-end_boundary
range-requires-in-Some-clause-end_boundary c =
    let i = c.groups.invariant in
    let f = c.in-Some.ensures in
    let name = c.args.name.now in
    let len : length c.groups.walk.text.now ≡ length name = ap (λ (t : List ℕ). length t) i.text in
    boundary_before name c.in-Some.start open_angle (omega (arith, f.inside, f.within)) (byte_in name c.groups.walk.text.now c.in-Some.start open_angle i.text f.bracket) (lit< tt)

pub groups-preserved : goal.groups-preserved
groups-preserved c =
    let i = c.groups.invariant in
    let f = c.in-Some.ensures in
    let name = c.args.name.now in
    let old = c.groups.walk in
    let new = c.next_group.new.walk in
    let len : length old.text.now ≡ length name = ap (λ (t : List ℕ). length t) i.text in
    let tested = contains_is c.contains.result (codes " as ") c.range.result.now (contains_text c.contains.result (codes " as ") c.range.result.now c.contains.ensures.cases) in
    record {
      text = ap (λ (t : Bor (List ℕ)). t.now) f.text ∙ i.text;
      onward = omega arith;
      within = omega (arith, f.within);
      same = group_goes _ name old.text.now (string_bytes c.groups.out) (string_bytes c.push_str.new.self) (string_bytes c.push_str-in-Some.new.self) c.range.result.now _ _ c.contains.result c.groups.kept old.place c.in-Some.start new.place i.text i.onward f.onward c.range.ensures.value tested c.if-contains.false
          (c.in_ok-push_str.ensures.bytes ∙ ap (λ (t : List ℕ). string_bytes c.groups.out ++ t) c.range-in-Some.ensures.value)
          c.in_ok-push_str-2.ensures.bytes i.same f.rest;
      boundary = boundary_in name old.text.now new.place i.text f.boundary c.utf8.name;
    }

pub range_from-requires : goal.range_from-requires
range_from-requires c = λ some. c.groups.invariant.boundary

pub returns : goal.returns
returns c =
    let i = c.groups.invariant in
    no_more_groups _ c.args.name.now c.groups.walk.text.now (string_bytes c.groups.out) _ _ c.groups.kept c.groups.walk.place i.text i.onward
    (c.from.ensures ∙ c.in_ok-push_str-3.ensures.bytes ∙ ap (λ (t : List ℕ). string_bytes c.groups.out ++ t) c.range_from.ensures.value) i.same c.in_default.ensures
