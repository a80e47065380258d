use Rattle.std.proofs.Common.{◌≡◌, ℕ, ◌+◌, ◌∷◌, [], ◌++◌, IsSomeAnd, refl, sym, ◌∙◌, ap, subst, arith, append_assoc, length-append}
use Rattle.std.proofs.Math.Logic.{∥∥₁_map}
use Rattle.soc_hall.specs.Seats.{IsNew, IsSeatOf, known_of, seats_in}
use mathlib.Core.List.{append-nil}
use Rattle.std.proofs.lemmas.List.Elements.{All-nil, All-push}
use Rattle.soc_pool.specs.Passes.{IsPassOf, seen_of}
use Rattle.soc_crew.specs.Jobs.{TakesToEnd}
use Rattle.soc_service.specs.Desks.{HasTurned}
use Rattle.soc_crew.specs.inner.Seated.{AreSeated}
use Rattle.soc_crew.proofs.Lists.{at_some, one_more, pop_all, push_all}
use Rattle.soc_crew.proofs.Seats.{more_seated}
use Rattle.soc_crew.proofs.leaving.leave_processors.Goals as goal

pub loop-processor-init : goal.loop-processor-init
loop-processor-init g c = record {
  each = c.requires.each;
  count = refl;
  room = refl;
  enough = c.requires.room;
  passes = ([], sym (append-nil _), omega arith, All-nil (λ q. IsPassOf c.args.site.now.jobs.now q × TakesToEnd (seen_of q)));
  passes_count = refl;
  roll = (refl, refl);
  seats = c.requires.seats;
  seated = λ kept seated. seated;
}

pub loop-processor-preserved : goal.loop-processor-preserved
loop-processor-preserved g c =
    let opened = c.args.opened.now.value in
    let basis = g.T.Logged.basis_of opened in
    let opening = g.T.Logged.log_of opened in
    let hall = c.args.site.now.hall.now in
    let jobs = c.args.site.now.jobs.now in
    let before = c.loop-processor.invariant in
    let popped = pop_all c.loop-processor.processors.items c.pop.new.self.items c.in-Some.processor c.in-Some.ensures.items
    (λ p. IsSomeAnd p.seat (λ s. IsSeatOf hall s × HasTurned (known_of p.began.value) (known_of s) 0) × IsNew basis opening (known_of p.began.value)
    × IsSomeAnd p.pass (λ q. IsPassOf jobs q × TakesToEnd (seen_of q))) before.each in
    let own = popped.1 in
    let one_less = one_more c.loop-processor.processors.items c.pop.new.self.items c.in-Some.processor c.in-Some.ensures.items in
    let was = c.loop-processor.processors.ok in
    let left = c.pop.new.self.ok in
    let pushed = c.give_back.ensures.seat.0 in
    let one = one_more _ _ c.in-Some-Some.seat pushed in
    let seat = c.in-Some-Some.seat in
    let there = at_some (λ s. IsSeatOf hall s × HasTurned (known_of c.in-Some.processor.began.value) (known_of s) 0) c.in-Some.processor.seat seat c.in-Some-Some.is-0 own.0 in
    let pass = c.in-Some-Some.pass in
    let pass_pushed = c.give_back.ensures.pass in
    let one_pass = one_more _ _ pass pass_pushed in
    let here = at_some (λ q. IsPassOf jobs q × TakesToEnd (seen_of q)) c.in-Some.processor.pass pass c.in-Some-Some.is-1 own.2 in
    let more = before.passes.0 in
    record {
      each = popped.0;
      count = let l = before.count in omega arith;
      room = c.give_back.ensures.seat.1 ∙ before.room;
      enough = before.enough;
      passes = (
        more ++ pass ∷ [],
        pass_pushed ∙ (ap (λ l. l ++ pass ∷ []) before.passes.1 ∙ append_assoc _ more (pass ∷ [])),
        let l = before.passes.2 in let longer = length-append more (pass ∷ []) in omega arith,
        All-push (λ q. IsPassOf jobs q × TakesToEnd (seen_of q)) more pass before.passes.3 here,
      );
      passes_count = let l = before.passes_count in omega arith;
      roll = (c.give_back.ensures.roll.0 ∙ before.roll.0, c.give_back.ensures.roll.1 ∙ before.roll.1);
      seats = push_all _ _ seat pushed (λ s. IsSeatOf hall s) before.seats there.0;
      seated = λ kept seated.
          let same : kept + 0 ≡ kept = omega arith in
          ∥∥₁_map (before.seated kept seated)
          (λ known. subst (λ (n : ℕ). AreSeated basis opening n (seats_in c.give_back.new.seats)) same
          (more_seated basis opening kept 0 (seats_in c.loop-processor.seats) (seats_in c.give_back.new.seats) seat (known_of c.in-Some.processor.began.value) pushed own.1 known there.1));
    }
