use Rattle.std.proofs.Common.{◌≡◌, ℕ, ◌+◌, Bool, true, false, cond, Bor, List, [], length, drop, ap, sym, ◌∙◌, arith}
use Rattle.std.proofs.lemmas.Str.{IsCharBoundary-start}
use Rattle.soc_frames.specs.declared.walk.Place.{Place}
use Rattle.soc_frames.specs.declared.walk.Walk.{Walk}
use Rattle.soc_frames.specs.Depth.{nested_from}
use Rattle.soc_frames.specs.Rust.{bytes_of}
use Rattle.soc_frames.specs.inner.Walks.{rest_of, behind_or, is_space}
use Rattle.soc_frames.proofs.BoundaryLemmas.{boundary_in}
use Rattle.soc_frames.proofs.WalkLemmas.{bytes_of-places_from}
use Rattle.soc_frames.proofs.GroupLemmas.{behind_spaces_start, space_turn, space_opens_nothing, space_ascii}
use Rattle.soc_frames.proofs.cpp.name_start.Goals as goal

rest_bytes : (walk : Walk) (name : List ℕ) → walk.text.now ≡ name → bytes_of (rest_of walk) ≡ drop walk.place name
rest_bytes walk name same = bytes_of-places_from _ walk.plain (drop walk.place walk.text.now) ∙ ap (drop walk.place) same

pub places-init : goal.places-init
places-init c =
    let name = c.args.name.now in
    record {
      text = c.over-walk.ensures.text;
      within = omega (arith, c.over-walk.ensures.place);
      same = behind_spaces_start name ∙ ap (λ (places : List Place). behind_or name (nested_from [] places)) (sym c.over-walk.ensures.rest);
      boundary = λ utf8. IsCharBoundary-start name utf8;
    }

pub places-smaller-then-is_space : goal.places-smaller-then-is_space
places-smaller-then-is_space c =
    let f = c.in-Some.ensures in
    let len : length c.places.walk.text.now ≡ length c.args.name.now = ap (λ (t : List ℕ). length t) c.places.invariant.text in
    omega (arith, f.onward, f.within)

pub places-smaller : goal.places-smaller
places-smaller c =
    let f = c.in-Some.ensures in
    let len : length c.places.walk.text.now ≡ length c.args.name.now = ap (λ (t : List ℕ). length t) c.places.invariant.text in
    omega (arith, f.onward, f.within)

pub places-preserved-then-is_space : goal.places-preserved-then-is_space
places-preserved-then-is_space c =
    let i = c.places.invariant in
    let f = c.in-Some.ensures in
    let name = c.args.name.now in
    let old = c.places.walk in
    let new = c.next_outer.new.self in
    let is : is_space c.in-Some.place ≡ true = sym c.is_space.ensures ∙ c.if-is_space.true in
    let len : length old.text.now ≡ length name = ap (λ (t : List ℕ). length t) i.text in
    let turned = space_turn name (drop c.places.start name) old.place (rest_of old) (rest_of new) f.tail c.in-Some.place f.here f.rest (rest_bytes old name i.text) in
    record {
      text = ap (λ (t : Bor (List ℕ)). t.now) f.text ∙ i.text;
      within = omega (arith, f.within);
      same = i.same ∙ turned
          ∙ ap (λ (t : Bool). behind_or (cond t (drop (old.place + 1) name) (drop c.places.start name)) (nested_from [] (rest_of new))) is
          ∙ ap (λ (n : ℕ). behind_or (drop n name) (nested_from [] (rest_of new))) (sym (f.single (space_opens_nothing c.in-Some.place is)));
      boundary = boundary_in name old.text.now new.place i.text (λ utf8. f.boundary utf8 (space_ascii c.in-Some.place is));
    }

pub places-preserved : goal.places-preserved
places-preserved c =
    let i = c.places.invariant in
    let f = c.in-Some.ensures in
    let name = c.args.name.now in
    let old = c.places.walk in
    let new = c.next_outer.new.self in
    let not : is_space c.in-Some.place ≡ false = sym c.is_space.ensures ∙ c.if-is_space.false in
    let len : length old.text.now ≡ length name = ap (λ (t : List ℕ). length t) i.text in
    let turned = space_turn name (drop c.places.start name) old.place (rest_of old) (rest_of new) f.tail c.in-Some.place f.here f.rest (rest_bytes old name i.text) in
    record {
      text = ap (λ (t : Bor (List ℕ)). t.now) f.text ∙ i.text;
      within = omega (arith, f.within);
      same = i.same ∙ turned ∙ ap (λ (t : Bool). behind_or (cond t (drop (old.place + 1) name) (drop c.places.start name)) (nested_from [] (rest_of new))) not;
      boundary = i.boundary;
    }

pub returns-clause-value : goal.returns-clause-value
returns-clause-value c =
    let i = c.places.invariant in
    sym (i.same ∙ ap (λ (places : List Place). behind_or (drop c.places.start c.args.name.now) (nested_from [] places)) c.in_default.ensures.nothing)

pub returns-clause-boundary : goal.returns-clause-boundary
returns-clause-boundary c = c.places.invariant.boundary
