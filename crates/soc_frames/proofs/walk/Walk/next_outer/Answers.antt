use Rattle.std.proofs.Common.{◌≡◌, true, false, List, length, refl, ap, sym, ◌∙◌, arith}
use Rattle.soc_frames.specs.Depth.{Bracket}
use Rattle.soc_frames.specs.inner.Walks.{rest_of, behind, opens}
use Rattle.soc_frames.proofs.BoundaryLemmas.{boundary_after, boundary_along, length_along}
use Rattle.soc_frames.proofs.GroupLemmas.{opens_nothing}
use Rattle.soc_frames.proofs.walk.Walk.next_outer.Goals as goal

pub returns-then-not-opens : goal.returns-then-not-opens
returns-then-not-opens c =
    let t = c.in_ok-place.ensures.turn in
    let place = c.in_ok-place.place in
    let new = c.step.new.self in
    let plain : opens place ≡ false = sym c.opens.ensures ∙ c.if-not-opens.true in
    record {
      tail = rest_of new;
      here = t.rest;
      rest = sym (ap (λ (brackets : List Bracket). behind brackets (rest_of new)) (opens_nothing place plain));
      text = t.text;
      onward = omega (arith, t.next);
      within = t.within;
      byte = t.byte;
      single = λ _. t.next;
      boundary = λ utf8 ascii. boundary_after c.args.self.now.text c.args.self.now.text _ _ _ refl t.next t.within t.byte ascii utf8;
    }

pub returns : goal.returns
returns c =
    let t = c.in_ok-place.ensures.turn in
    let place = c.in_ok-place.place in
    let g = c.pass_group.ensures in
    let opened : opens place ≡ true = sym c.opens.ensures ∙ c.if-not-opens.false in
    let len : length c.step.new.self.text.now ≡ length c.args.self.now.text.now = length_along c.args.self.now.text c.step.new.self.text t.text in
    record {
      tail = rest_of c.step.new.self;
      here = t.rest;
      rest = g.rest;
      text = g.text ∙ t.text;
      onward = omega (arith, t.next, g.onward);
      within = omega (arith, g.within);
      byte = t.byte;
      single = λ e. let clash : true ≡ false = sym opened ∙ e in cc;
      boundary = λ utf8 ascii. boundary_along c.args.self.now.text c.step.new.self.text c.pass_group.new.self.place t.text g.boundary utf8;
    }
