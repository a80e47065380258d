use Rattle.std.proofs.Common.{◌≡◌, ◌+◌, length, ◌∙◌, arith}
use Rattle.soc_pool.specs.Passes.{IsNew, IsPassOf, passes_in, room_of}
use Rattle.soc_pool.proofs.Rolls.{all_stay, roll_stays}
use Rattle.soc_crew.proofs.Lists.{one_more, pop_all}
use Rattle.soc_crew.proofs.stations.Stock.new.Goals as goal

pub returns-clause-own : goal.returns-clause-own
returns-clause-own c =
    let jobs = c.in_ok-jobs.jobs in
    (pop_all (passes_in c.in_ok-jobs.passes) (passes_in c.pop.new.self) c.in-Some.own c.in-Some.ensures.popped (λ p. IsPassOf jobs p × IsNew p) c.in_ok-jobs.ensures.each).1

pub returns-clause-passes : goal.returns-clause-passes
returns-clause-passes c =
    let jobs = c.in_ok-jobs.jobs in
    let left = pop_all (passes_in c.in_ok-jobs.passes) (passes_in c.pop.new.self) c.in-Some.own c.in-Some.ensures.popped (λ p. IsPassOf jobs p × IsNew p) c.in_ok-jobs.ensures.each in
    let one = one_more (passes_in c.in_ok-jobs.passes) (passes_in c.pop.new.self) c.in-Some.own c.in-Some.ensures.popped in
    let count = c.in_ok-jobs.ensures.count.0 in
    let long : length (passes_in c.pop.new.self) ≡ c.args.crew.collectors + c.args.crew.processors = omega arith in
    (left.0, long)

pub returns-clause-roll : goal.returns-clause-roll
returns-clause-roll c =
    let jobs = c.in_ok-jobs.jobs in
    let same = c.in-Some.ensures.same in
    let room : room_of c.pop.new.self ≡ room_of c.in_ok-jobs.passes = same.1 in
    let enough = c.in_ok-jobs.ensures.count.1 in (
      roll_stays jobs c.in_ok-jobs.passes c.pop.new.self same.0 c.in_ok-jobs.ensures.roll.0,
      all_stay c.in_ok-jobs.passes c.pop.new.self same.0 ∙ c.in_ok-jobs.ensures.roll.1,
      omega arith,
    )
