use Rattle.std.proofs.Common.{◌≡◌, ◌++◌}
use Rattle.soc_hall.specs.Seats.{IsSeatOf, known_of}
use Rattle.soc_pool.specs.Passes.{IsPassOf, seen_of}
use Rattle.soc_service.specs.Works.{PutsCrashes, crash_jobs}
use Rattle.soc_service.proofs.Worked.{HasWorked}
use Rattle.soc_service.proofs.processor.worker.Given as goal

abbrev pub invariant-loop : goal.invariant-loop
invariant-loop g l = record {
  seat : IsSeatOf l.site.hall.now l.seat;
  pass : IsPassOf l.site.jobs.now l.pass;
  basis : (known_of l.seat).basis ≡ (known_of l.initial.seat).basis;
  takes : (seen_of l.pass).takes ≡ (seen_of l.initial.pass).takes ++ crash_jobs l.lists.taken.items;
  puts : PutsCrashes (seen_of l.initial.pass) (seen_of l.pass);
  worked : HasWorked g.T.Logged g.T.SharedDesk.command_of
      (known_of l.initial.seat) l.lists.taken.items l.lists.made.items l.lists.stale.items l.lists.missed.items (known_of l.seat);
}
