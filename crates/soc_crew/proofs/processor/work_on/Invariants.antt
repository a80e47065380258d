use Rattle.soc_hall.specs.Seats.{IsSeatOf, known_of}
use Rattle.soc_pool.specs.Passes.{IsPassOf, seen_of}
use Rattle.soc_service.specs.Desks.{HasTurned}
use Rattle.soc_crew.proofs.Passes.{TakesCrashes}
use Rattle.soc_crew.proofs.processor.work_on.Given as goal

abbrev pub invariant-loop : goal.invariant-loop
invariant-loop g l = record {
  seat : IsSeatOf l.site.hall.now l.seat;
  pass : IsPassOf l.site.jobs.now l.pass;
  turned : HasTurned (known_of l.initial.seat) (known_of l.seat) 0;
  took : TakesCrashes (seen_of l.initial.pass) (seen_of l.pass);
}
