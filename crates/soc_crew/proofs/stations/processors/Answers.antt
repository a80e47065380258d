use Rattle.std.proofs.Common.{◌≡◌, Some, IfSome, IsSomeAnd, refl, sym, ◌∙◌, ap, subst, arith}
use Rattle.soc_hall.specs.Seats.{IsNew, IsSeatOf, known_of}
use Rattle.soc_pool.specs.Passes.{IsNew as IsNewPass, IsPassOf}
use Rattle.soc_crew.proofs.Lists.{one_more, pop_all, push_all}
use Rattle.soc_crew.proofs.stations.processors.Goals as goal

pub loop-made-preserved : goal.loop-made-preserved
loop-made-preserved g c =
    let opened = c.args.opened.now.value in
    let basis = g.T.Logged.basis_of opened in
    let opening = g.T.Logged.log_of opened in
    let hall = c.args.site.now.hall.now in
    let before = c.loop-made.invariant in
    let seat = c.station-seat.result.0 in
    let pass = c.station-seat.result.1 in
    let seat_is = c.station-seat.ensures.seat.0 in
    let seats = pop_all _ _ seat seat_is (λ s. IsSeatOf hall s × IsNew basis opening (known_of s)) before.seats in
    let passes = pop_all _ _ pass c.station-seat.ensures.pass (λ p. IsPassOf c.args.site.now.jobs.now p × IsNewPass p) before.passes in
    let began_is = c.of-began.ensures in
    let new : IsNew basis opening (known_of c.of-began.result.value) = subst (λ s. IsNew basis opening (known_of s)) (sym began_is) seats.1.1 in
    let sits : IsSeatOf hall c.of-began.result.value = subst (λ s. IsSeatOf hall s) (sym began_is) seats.1.0 in
    let one_seat = one_more _ _ seat seat_is in
    let one_pass = one_more _ _ pass c.station-seat.ensures.pass in
    let longer = one_more c.push_reserved.new.self.items c.loop-made.list.items _ c.push_reserved.ensures.items in
    let d = c.push_reserved.new.self.ok in
    let e = c.loop-made.list.ok in
    record {
      count = let l = before.count in omega arith;
      capacity = let l = before.capacity in let k = c.push_reserved.ensures.capacity in omega arith;
      seats = seats.0;
      passes = passes.0;
      roll = (c.station-seat.ensures.roll.0 ∙ before.roll.0, c.station-seat.ensures.roll.1 ∙ before.roll.1);
      left = let l = before.left in omega arith;
      room = c.station-seat.ensures.seat.1 ∙ before.room;
      left_passes = let l = before.left_passes in omega arith;
      enough = before.enough;
      reporter = before.reporter;
      each = push_all c.push_reserved.new.self.items c.loop-made.list.items _ c.push_reserved.ensures.items
          (λ p. ((p.seat ≡ Some p.began.value) × IsSeatOf p.site.now.hall.now p.began.value × IsSomeAnd p.pass (λ q. IsPassOf p.site.now.jobs.now q × IsNewPass q)
          × IfSome (known_of p.began.value).basis (λ b. (g.T.SharedDesk.desk_of b).row_of ≡ g.P.Reporter.row_of p.reporter.now)) × (p.site.now.hall.now ≡ hall) × IsNew basis opening (known_of p.began.value) × (p.site.now.jobs.now ≡ c.args.site.now.jobs.now)) before.each
          ((ap (λ s. Some s) (sym began_is), sits, passes.1, subst (λ o. IfSome o (λ b. (g.T.SharedDesk.desk_of b).row_of ≡ g.P.Reporter.row_of c.args.reporter.now)) (sym new.0) before.reporter), refl, new, refl);
    }
