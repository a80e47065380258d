use Rattle.std.proofs.Common.{rules, ◌∙◌, sym}
use Rattle.std.proofs.lemmas.List.Elements.{All-push, All-same}
use Rattle.soc_hall.specs.Seats.{seats_in, IsSeatOf}
use Rattle.soc_hall.proofs.Taken.{all_next, next_left, longer_both}
use Rattle.soc_hall.proofs.tests.seats_of_askers.Goals as goal

pub loop-asker-preserved : goal.loop-asker-preserved
loop-asker-preserved g c = record {
  can_next = tt;
  is_finite = tt;
  all = next_left c.loop-asker.yielded c.loop-asker.asker-iterator.rest.items c.next.new.self.rest.items c.args.askers.items c.in-Some.asker c.loop-asker.invariant.all c.in-Some.ensures.steps.0;
  count = longer_both (seats_in c.loop-asker.seats) (seats_in c.push.new.self) c.in-Some.asker.seat c.loop-asker.yielded c.in-Some.asker c.push.ensures.pushed c.loop-asker.invariant.count;
  room = rw c.push.ensures.room c.loop-asker.invariant.room;
  seats = All-same (λ seat. IsSeatOf c.args.hall.now seat) _ _ c.push.ensures.pushed (All-push (λ seat. IsSeatOf c.args.hall.now seat) _ c.in-Some.asker.seat c.loop-asker.invariant.seats
      (all_next (λ asker. IsSeatOf c.args.hall.now asker.seat) c.loop-asker.yielded c.loop-asker.asker-iterator.rest.items c.next.new.self.rest.items c.args.askers.items c.in-Some.asker c.loop-asker.invariant.all c.in-Some.ensures.steps.0 c.loop-asker.invariant.each));
  each = c.loop-asker.invariant.each;
}
