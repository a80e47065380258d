use Rattle.std.proofs.Common.{◌≡◌, ◌⊎◌, inl, inr, ℕ, ◌+◌, ◌^◌, ◌<◌, Bool, true, ◌||◌, IsSomeAnd, sym, ◌∙◌, ap, subst, arith}
use Rattle.std.proofs.Math.Logic.{∥∥₁_map₂}
use Rattle.soc_base.proofs.Folk.{or_second}
use Rattle.soc_hall.specs.Seats.{IsNew, IsSeatOf, known_of, seats_in}
use Rattle.soc_pool.specs.Passes.{IsPassOf, seen_of}
use Rattle.soc_crew.specs.Jobs.{OnlyPuts}
use Rattle.soc_crew.specs.inner.Seated.{AreSeated}
use Rattle.soc_crew.proofs.Lists.{at_some, one_more, pop_all, push_all}
use Rattle.soc_crew.proofs.Seats.{more_seated}
use Rattle.soc_crew.proofs.leaving.leave_collectors.Goals as goal

is_over : (old own : Bool) (refused mine : ℕ) → (own ≡ true) ⊎ (0 < mine) → ((old || own) ≡ true) ⊎ (0 < refused + mine)
is_over old own refused mine (inl stopped) = inl (or_second old own stopped)
is_over old own refused mine (inr some) = inr (omega (arith, some))

pub add-requires-clause-connections : goal.add-requires-clause-connections
add-requires-clause-connections g c =
    let opened = c.args.opened.now.value in
    let basis = g.T.Logged.basis_of opened in
    let opening = g.T.Logged.log_of opened in
    let hall = c.args.site.now.hall.now in
    let jobs = c.args.site.now.jobs.now in
    let popped = pop_all c.loop-collector.collectors.items c.pop.new.self.items c.in-Some.collector c.in-Some.ensures.items
    (λ k. (k.desk.hall.now ≡ hall) × IsNew basis opening (known_of k.desk.began.value)
    × (k.served.connections ≡ k.ticket.handed.amount) × (k.served.kept ≡ k.desk.kept) × (k.served.kept < 2 ^ 60)
    × (k.ticket.handed.parts ≡ 1) × (k.ticket.refused.parts ≡ 1) × ((k.served.stopped ≡ true) ⊎ (0 < k.ticket.refused.amount))
    × (k.desk.jobs.now ≡ jobs) × IsSomeAnd k.desk.pass (λ q. OnlyPuts (seen_of q))) c.loop-collector.invariant.each in
    let own = popped.1 in
    let one_less = one_more c.loop-collector.collectors.items c.pop.new.self.items c.in-Some.collector c.in-Some.ensures.items in
    let was = c.loop-collector.collectors.ok in
    let left = c.pop.new.self.ok in
    let mine = own.2 in
    let so_far = c.loop-collector.invariant.connections in
    let merged = c.merge.ensures.handed in
    let same = c.confirm.ensures.amounts.0 in
    let short = c.confirm.ensures.short in
    omega arith

pub add-requires-clause-kept : goal.add-requires-clause-kept
add-requires-clause-kept g c =
    let opened = c.args.opened.now.value in
    let basis = g.T.Logged.basis_of opened in
    let opening = g.T.Logged.log_of opened in
    let hall = c.args.site.now.hall.now in
    let jobs = c.args.site.now.jobs.now in
    let popped = pop_all c.loop-collector.collectors.items c.pop.new.self.items c.in-Some.collector c.in-Some.ensures.items
    (λ k. (k.desk.hall.now ≡ hall) × IsNew basis opening (known_of k.desk.began.value)
    × (k.served.connections ≡ k.ticket.handed.amount) × (k.served.kept ≡ k.desk.kept) × (k.served.kept < 2 ^ 60)
    × (k.ticket.handed.parts ≡ 1) × (k.ticket.refused.parts ≡ 1) × ((k.served.stopped ≡ true) ⊎ (0 < k.ticket.refused.amount))
    × (k.desk.jobs.now ≡ jobs) × IsSomeAnd k.desk.pass (λ q. OnlyPuts (seen_of q))) c.loop-collector.invariant.each in
    let own = popped.1 in
    let one_less = one_more c.loop-collector.collectors.items c.pop.new.self.items c.in-Some.collector c.in-Some.ensures.items in
    let was = c.loop-collector.collectors.ok in
    let left = c.pop.new.self.ok in
    let mine = own.4 in
    let so_far = c.loop-collector.invariant.kept in
    let count = c.loop-collector.invariant.count in
    let few = c.loop-collector.invariant.few.1 in
    omega arith

pub loop-collector-preserved : goal.loop-collector-preserved
loop-collector-preserved g c =
    let opened = c.args.opened.now.value in
    let basis = g.T.Logged.basis_of opened in
    let opening = g.T.Logged.log_of opened in
    let hall = c.args.site.now.hall.now in
    let jobs = c.args.site.now.jobs.now in
    let popped = pop_all c.loop-collector.collectors.items c.pop.new.self.items c.in-Some.collector c.in-Some.ensures.items
    (λ k. (k.desk.hall.now ≡ hall) × IsNew basis opening (known_of k.desk.began.value)
    × (k.served.connections ≡ k.ticket.handed.amount) × (k.served.kept ≡ k.desk.kept) × (k.served.kept < 2 ^ 60)
    × (k.ticket.handed.parts ≡ 1) × (k.ticket.refused.parts ≡ 1) × ((k.served.stopped ≡ true) ⊎ (0 < k.ticket.refused.amount))
    × (k.desk.jobs.now ≡ jobs) × IsSomeAnd k.desk.pass (λ q. OnlyPuts (seen_of q))) c.loop-collector.invariant.each in
    let own = popped.1 in
    let one_less = one_more c.loop-collector.collectors.items c.pop.new.self.items c.in-Some.collector c.in-Some.ensures.items in
    let was = c.loop-collector.collectors.ok in
    let left = c.pop.new.self.ok in
    let before = c.loop-collector.invariant in
    let pushed = c.give_back.ensures.seat.0 in
    let one = one_more _ _ c.end-seat.result.0 pushed in
    let pass = c.end-seat.result.1 in
    let pass_pushed = c.give_back.ensures.pass in
    let one_pass = one_more _ _ pass pass_pushed in
    let merged = c.merge.ensures in
    let confirmed = c.confirm.ensures in
    let added = c.add.ensures in
    let kept_is : c.add.new.self.kept ≡ c.loop-collector.served.kept + c.in-Some.collector.desk.kept = ap (λ t. t.kept) added ∙ ap (λ n. c.loop-collector.served.kept + n) own.3 in
    let seat : IsSeatOf hall c.end-seat.result.0 = subst (λ h. IsSeatOf h c.end-seat.result.0) own.0 c.end-seat.ensures.seat.1 in
    record {
      each = popped.0;
      few = before.few;
      left = let l = before.left in omega arith;
      count = let l = before.count in omega arith;
      room = c.give_back.ensures.seat.1 ∙ before.room;
      seats = push_all _ _ c.end-seat.result.0 pushed (λ s. IsSeatOf hall s) before.seats seat;
      passes = push_all _ _ pass pass_pushed (λ q. IsPassOf jobs q × OnlyPuts (seen_of q)) before.passes
          (subst (λ j. IsPassOf j pass) own.8 c.end-seat.ensures.pass.1, at_some (λ q. OnlyPuts (seen_of q)) c.in-Some.collector.desk.pass pass c.end-seat.ensures.pass.0 own.9);
      passes_count = let l = before.passes_count in omega arith;
      roll = (c.give_back.ensures.roll.0 ∙ before.roll.0, c.give_back.ensures.roll.1 ∙ before.roll.1);
      seated =
          subst (λ (n : ℕ). ∥ AreSeated basis opening n (seats_in c.give_back.new.seats) ∥₁) (sym kept_is)
          (∥∥₁_map₂ before.seated c.end-seat.ensures.turned
          (λ seated turned. more_seated basis opening c.loop-collector.served.kept c.in-Some.collector.desk.kept (seats_in c.loop-collector.seats) (seats_in c.give_back.new.seats) c.end-seat.result.0 (known_of c.in-Some.collector.desk.began.value) pushed own.1 seated turned));
      kept = let a = before.kept in let b = own.4 in let d = own.3 in let e = kept_is in omega arith;
      connections = let a = ap (λ t. t.connections) added in let b = own.2 in let d = before.connections in let e = merged.handed in let f = confirmed.amounts.0 in omega arith;
      handed = let a = before.handed in let b = merged.handed_parts in let d = confirmed.parts.0 in let e = own.5 in omega arith;
      refused = let a = before.refused in let b = merged.refused_parts in let d = confirmed.parts.1 in let e = own.6 in omega arith;
      over =
          λ _. subst (λ (b : Bool). (b ≡ true) ⊎ (0 < c.confirm.new.ticket.refused.amount)) (sym (ap (λ t. t.stopped) added))
          (subst (λ (n : ℕ). ((c.loop-collector.served.stopped || c.in-Some.collector.served.stopped) ≡ true) ⊎ (0 < n)) (sym (confirmed.amounts.1 ∙ merged.refused))
          (is_over c.loop-collector.served.stopped c.in-Some.collector.served.stopped _ _ own.7));
    }
