use Rattle.std.proofs.Common.{rules, ap, ◌∙◌}
use Rattle.soc_hall.specs.Seats.{IsSeatOf}
use Rattle.soc_hall.specs.inner.Steps.{having_taken}
use Rattle.soc_hall.proofs.Closes.{takes_in}
use Rattle.soc_hall.proofs.Taken.{all_next, next_left, none_left, took_one, all_known}
use Rattle.soc_hall.proofs.close.Hall+T.take_in.Goals as goal

pub join_seat-requires : goal.join_seat-requires
join_seat-requires g c = (
  search rules,
  all_next (λ seat. IsSeatOf c.args.self.now seat) c.loop-seat.yielded c.loop-seat.seat-iterator.rest.items c.next.new.self.rest.items c.args.others.items c.in-Some.seat c.loop-seat.invariant.all c.in-Some.ensures.steps.0 c.requires.others,
  c.in-Some.seat.holds_nothing,
  search rules,
  takes_in _ _ _ _ _ _ _ _ _ _ c.loop-seat.invariant.chair.2 c.in-Some.seat.rests c.in-Some.seat.took_none,
)

pub loop-seat-preserved : goal.loop-seat-preserved
loop-seat-preserved g c = record {
  can_next = tt;
  is_finite = tt;
  all = next_left c.loop-seat.yielded c.loop-seat.seat-iterator.rest.items c.next.new.self.rest.items c.args.others.items c.in-Some.seat c.loop-seat.invariant.all c.in-Some.ensures.steps.0;
  chair = (search rules, search rules, ap (λ m. m.0.stage) c.join_seat.ensures.2 ∙ c.loop-seat.invariant.chair.2);
  took = took_one c.loop-seat.yielded c.in-Some.seat c.args.chair.me.0 c.loop-seat.chair.me.0 c.join_seat.new.seat.me.0 c.loop-seat.invariant.took (ap (λ m. m.0) c.join_seat.ensures.2) c.in-Some.seat.one;
}

pub returns-clause-took : goal.returns-clause-took
returns-clause-took g c = c.loop-seat.invariant.took
    ∙ ap (λ l. having_taken (all_known l) c.args.chair.me.0) (none_left c.loop-seat.yielded c.loop-seat.seat-iterator.rest.items c.args.others.items c.loop-seat.invariant.all (search rules))
