use Rattle.std.proofs.Common.{◌≡◌, ◌⊎◌, ◌+◌, ◌*◌, ◌^◌, ◌≤◌, ◌<◌, true, length, All, IsSomeAnd}
use Rattle.std.specs.Prelude.{vec_len}
use Rattle.soc_hall.specs.Seats.{IsNew, IsSeatOf, known_of, room_of, seats_in}
use Rattle.soc_pool.specs.Passes.{IsPassOf, passes_in, roll_of, room_of as pass_room, seen_of}
use Rattle.soc_crew.specs.Jobs.{OnlyPuts}
use Rattle.soc_crew.specs.inner.Seated.{AreSeated}
use Rattle.soc_crew.proofs.leaving.leave_collectors.Given as goal

abbrev pub invariant-loop-collector : goal.invariant-loop-collector
invariant-loop-collector g l = record {
  each : All (λ c. (c.desk.hall.now ≡ l.site.hall.now) × IsNew (g.T.Logged.basis_of l.opened.value) (g.T.Logged.log_of l.opened.value) (known_of c.desk.began.value)
      × (c.served.connections ≡ c.ticket.handed.amount) × (c.served.kept ≡ c.desk.kept) × (c.served.kept < 2 ^ 60)
      × (c.ticket.handed.parts ≡ 1) × (c.ticket.refused.parts ≡ 1)
      × ((c.served.stopped ≡ true) ⊎ (0 < c.ticket.refused.amount))
      × (c.desk.jobs.now ≡ l.site.jobs.now) × IsSomeAnd c.desk.pass (λ q. OnlyPuts (seen_of q))) l.collectors.items;
  few : (0 < vec_len l.fn.collectors) × (vec_len l.fn.collectors ≤ 8) × (vec_len l.fn.collectors ≤ room_of l.fn.seats) × (vec_len l.fn.collectors ≤ pass_room l.fn.passes);
  left : vec_len l.collectors ≤ vec_len l.fn.collectors;
  count : length (seats_in l.seats) + vec_len l.collectors ≡ vec_len l.fn.collectors;
  room : room_of l.seats ≡ room_of l.fn.seats;
  seats : All (λ seat. IsSeatOf l.site.hall.now seat) (seats_in l.seats);
  passes : All (λ q. IsPassOf l.site.jobs.now q × OnlyPuts (seen_of q)) (passes_in l.passes);
  passes_count : length (passes_in l.passes) + vec_len l.collectors ≡ vec_len l.fn.collectors;
  roll : (roll_of l.passes ≡ roll_of l.fn.passes) × (pass_room l.passes ≡ pass_room l.fn.passes);
  seated : ∥ AreSeated (g.T.Logged.basis_of l.opened.value) (g.T.Logged.log_of l.opened.value) l.served.kept (seats_in l.seats) ∥₁;
  kept : l.served.kept ≤ length (seats_in l.seats) * 2 ^ 60;
  connections : l.served.connections ≡ l.ticket.handed.amount;
  handed : l.ticket.handed.parts + vec_len l.collectors ≡ l.fn.ticket.handed.parts + vec_len l.fn.collectors;
  refused : l.ticket.refused.parts + vec_len l.collectors ≡ l.fn.ticket.refused.parts + vec_len l.fn.collectors;
  over : vec_len l.collectors < vec_len l.fn.collectors → (l.served.stopped ≡ true) ⊎ (0 < l.ticket.refused.amount);
}

abbrev pub decreases-loop-collector : goal.decreases-loop-collector
decreases-loop-collector g l = vec_len l.collectors
