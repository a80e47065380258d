use Rattle.std.proofs.Common.{◌≡◌, IsSomeAnd, sym, ◌∙◌, subst, arith}
use Rattle.soc_hall.specs.Seats.{IsNew, IsSeatOf, known_of}
use Rattle.soc_pool.specs.Passes.{IsNew as IsNewPass, IsPassOf}
use Rattle.soc_collect.specs.Tallies.{nothing_served}
use Rattle.soc_crew.proofs.Lists.{one_more, pop_all, push_all}
use Rattle.soc_crew.proofs.stations.collectors.Goals as goal

pub loop-buffer-preserved : goal.loop-buffer-preserved
loop-buffer-preserved g c =
    let opened = c.args.opened.now.value in
    let basis = g.T.Logged.basis_of opened in
    let opening = g.T.Logged.log_of opened in
    let hall = c.args.site.now.hall.now in
    let before = c.loop-buffer.invariant in
    let seat = c.station-seat.result.0 in
    let pass = c.station-seat.result.1 in
    let seat_is = c.station-seat.ensures.seat.0 in
    let seats = pop_all _ _ seat seat_is (λ s. IsSeatOf hall s × IsNew basis opening (known_of s)) before.seats in
    let passes = pop_all _ _ pass c.station-seat.ensures.pass (λ p. IsPassOf c.args.site.now.jobs.now p × IsNewPass p) before.passes in
    let new : IsNew basis opening (known_of c.new.result.began.value) = subst (λ s. IsNew basis opening (known_of s)) (sym c.new.ensures.began) seats.1.1 in
    let one_seat = one_more _ _ seat seat_is in
    let one_pass = one_more _ _ pass c.station-seat.ensures.pass in
    let one_buffer = one_more c.loop-buffer.buffers.items c.pop.new.self.items c.in-Some.buffer c.in-Some.ensures.items in
    let longer = one_more c.push_reserved.new.self.items c.loop-buffer.list.items _ c.push_reserved.ensures.items in
    let a = c.loop-buffer.buffers.ok in
    let b = c.pop.new.self.ok in
    let d = c.push_reserved.new.self.ok in
    let e = c.loop-buffer.list.ok in
    let fewer = c.split_off.ensures.parts_left in
    record {
      count = let l = before.count in omega arith;
      capacity = let l = before.capacity in let k = c.push_reserved.ensures.capacity in omega arith;
      seats = seats.0;
      passes = passes.0;
      roll = (c.station-seat.ensures.roll.0 ∙ before.roll.0, c.station-seat.ensures.roll.1 ∙ before.roll.1);
      left = let l = before.left in omega arith;
      room = c.station-seat.ensures.seat.1 ∙ before.room;
      left_passes = let l = before.left_passes in omega arith;
      handed = let l = before.handed in let f = fewer.0 in omega arith;
      refused = let l = before.refused in let f = fewer.1 in omega arith;
      unused = c.split_off.ensures.still_unused;
      enough = before.enough;
      each = push_all c.push_reserved.new.self.items c.loop-buffer.list.items _ c.push_reserved.ensures.items
          (λ k. (k.desk.hall.now ≡ hall) × IsNew basis opening (known_of k.desk.began.value) × (k.served ≡ nothing_served) × (k.desk.kept ≡ 0)
          × (k.ticket.handed.parts ≡ 1) × (k.ticket.refused.parts ≡ 1) × (k.ticket.handed.amount ≡ 0) × (k.ticket.refused.amount ≡ 0)
          × (k.desk.jobs.now ≡ c.args.site.now.jobs.now) × IsSomeAnd k.desk.pass (λ q. IsNewPass q)) before.each
          (c.new.ensures.hall, new, c.new-in-Some.ensures, c.new.ensures.kept, c.split_off.ensures.parts.0, c.split_off.ensures.parts.1, c.split_off.ensures.unused.0, c.split_off.ensures.unused.1, c.new.ensures.jobs, subst (λ o. IsSomeAnd o (λ q. IsNewPass q)) (sym c.new.ensures.pass) passes.1.1);
    }
