use Rattle.std.proofs.Common.{◌≡◌, ◌+◌, ◌≤◌, length, All, Some, IfSome, IsSomeAnd}
use Rattle.std.specs.Prelude.{vec_capacity, vec_len}
use Rattle.soc_hall.specs.Seats.{IsNew, IsSeatOf, known_of, room_of, seats_in}
use Rattle.soc_pool.specs.Passes.{IsNew as IsNewPass, IsPassOf, passes_in, roll_of, room_of as pass_room}
use Rattle.soc_crew.proofs.stations.processors.Given as goal

abbrev pub invariant-loop-made : goal.invariant-loop-made
invariant-loop-made g l = record {
  count : vec_len l.list ≡ l.made;
  capacity : l.count ≤ vec_capacity l.list;
  seats : All (λ seat. IsSeatOf l.site.hall.now seat × IsNew (g.T.Logged.basis_of l.opened.value)
      (g.T.Logged.log_of l.opened.value) (known_of seat)) (seats_in l.seats);
  passes : All (λ pass. IsPassOf l.site.jobs.now pass × IsNewPass pass) (passes_in l.passes);
  roll : (roll_of l.passes ≡ roll_of l.fn.passes) × (pass_room l.passes ≡ pass_room l.fn.passes);
  left : length (seats_in l.seats) + l.made ≡ length (seats_in l.fn.seats);
  room : room_of l.seats ≡ room_of l.fn.seats;
  left_passes : length (passes_in l.passes) + l.made ≡ length (passes_in l.fn.passes);
  enough : (l.count ≤ length (seats_in l.fn.seats)) × (l.count ≤ length (passes_in l.fn.passes));
  reporter : (g.T.SharedDesk.desk_of (g.T.Logged.basis_of l.opened.value)).row_of ≡ g.P.Reporter.row_of l.reporter;
  each : All (λ p. ((p.seat ≡ Some p.began.value) × IsSeatOf p.site.now.hall.now p.began.value × IsSomeAnd p.pass (λ q. IsPassOf p.site.now.jobs.now q × IsNewPass q)
      × IfSome (known_of p.began.value).basis (λ basis. (g.T.SharedDesk.desk_of basis).row_of ≡ g.P.Reporter.row_of p.reporter.now))
      × (p.site.now.hall.now ≡ l.site.hall.now)
      × IsNew (g.T.Logged.basis_of l.opened.value)
      (g.T.Logged.log_of l.opened.value) (known_of p.began.value)
      × (p.site.now.jobs.now ≡ l.site.jobs.now)) l.list.items;
}
