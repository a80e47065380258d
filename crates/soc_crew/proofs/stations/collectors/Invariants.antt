use Rattle.std.proofs.Common.{◌≡◌, ◌+◌, ◌≤◌, length, All, IsSomeAnd}
use Rattle.std.specs.Prelude.{vec_capacity, vec_len}
use Rattle.soc_hall.specs.Seats.{IsNew, IsSeatOf, known_of, room_of, seats_in}
use Rattle.soc_pool.specs.Passes.{IsNew as IsNewPass, IsPassOf, passes_in, roll_of, room_of as pass_room}
use Rattle.soc_collect.specs.Tallies.{nothing_served}
use Rattle.soc_crew.proofs.stations.collectors.Given as goal

abbrev pub invariant-loop-buffer : goal.invariant-loop-buffer
invariant-loop-buffer g l = record {
  count : vec_len l.list + vec_len l.buffers ≡ vec_len l.fn.buffers;
  capacity : vec_len l.fn.buffers ≤ vec_capacity l.list;
  seats : All (λ seat. IsSeatOf l.site.hall.now seat × IsNew (g.T.Logged.basis_of l.opened.value)
      (g.T.Logged.log_of l.opened.value) (known_of seat)) (seats_in l.seats);
  passes : All (λ pass. IsPassOf l.site.jobs.now pass × IsNewPass pass) (passes_in l.passes);
  roll : (roll_of l.passes ≡ roll_of l.fn.passes) × (pass_room l.passes ≡ pass_room l.fn.passes);
  left : length (seats_in l.seats) + vec_len l.list ≡ length (seats_in l.fn.seats);
  room : room_of l.seats ≡ room_of l.fn.seats;
  left_passes : length (passes_in l.passes) + vec_len l.list ≡ length (passes_in l.fn.passes);
  handed : l.ticket.handed.parts + vec_len l.list ≡ l.fn.ticket.handed.parts;
  refused : l.ticket.refused.parts + vec_len l.list ≡ l.fn.ticket.refused.parts;
  unused : (l.ticket.handed.amount ≡ 0) × (l.ticket.refused.amount ≡ 0);
  enough : (vec_len l.fn.buffers ≤ length (seats_in l.fn.seats)) × (vec_len l.fn.buffers ≤ length (passes_in l.fn.passes));
  each : All (λ c. (c.desk.hall.now ≡ l.site.hall.now) × IsNew (g.T.Logged.basis_of l.opened.value)
      (g.T.Logged.log_of l.opened.value) (known_of c.desk.began.value)
      × (c.served ≡ nothing_served) × (c.desk.kept ≡ 0)
      × (c.ticket.handed.parts ≡ 1) × (c.ticket.refused.parts ≡ 1) × (c.ticket.handed.amount ≡ 0) × (c.ticket.refused.amount ≡ 0)
      × (c.desk.jobs.now ≡ l.site.jobs.now) × IsSomeAnd c.desk.pass (λ q. IsNewPass q)) l.list.items;
}

abbrev pub decreases-loop-buffer : goal.decreases-loop-buffer
decreases-loop-buffer g l = vec_len l.buffers
