use Rattle.std.proofs.Common.{◌≡◌, ℕ, ◌+◌, ◌≤◌, List, ◌++◌, length, All, IsSomeAnd}
use Rattle.std.specs.Prelude.{vec_len}
use Rattle.soc_hall.specs.Seats.{IsNew, IsSeatOf, known_of, room_of, seats_in}
use Rattle.soc_service.specs.Desks.{HasTurned}
use Rattle.soc_pool.specs.declared.pass.Pass.{Pass}
use Rattle.soc_pool.specs.Passes.{IsPassOf, passes_in, roll_of, room_of as pass_room, seen_of}
use Rattle.soc_crew.specs.Jobs.{TakesToEnd}
use Rattle.soc_crew.specs.inner.Seated.{AreSeated}
use Rattle.soc_crew.proofs.leaving.leave_processors.Given as goal

abbrev pub invariant-loop-processor : goal.invariant-loop-processor
invariant-loop-processor g l = record {
  each : All (λ p. IsSomeAnd p.seat (λ s. IsSeatOf l.site.hall.now s × HasTurned (known_of p.began.value) (known_of s) 0)
      × IsNew (g.T.Logged.basis_of l.opened.value) (g.T.Logged.log_of l.opened.value) (known_of p.began.value)
      × IsSomeAnd p.pass (λ q. IsPassOf l.site.jobs.now q × TakesToEnd (seen_of q))) l.processors.items;
  count : length (seats_in l.seats) + vec_len l.processors ≡ length (seats_in l.fn.seats) + vec_len l.fn.processors;
  room : room_of l.seats ≡ room_of l.fn.seats;
  enough : (length (seats_in l.fn.seats) + vec_len l.fn.processors ≤ room_of l.fn.seats) × (length (passes_in l.fn.passes) + vec_len l.fn.processors ≤ pass_room l.fn.passes);
  passes : (more : List Pass) × (passes_in l.passes ≡ passes_in l.fn.passes ++ more) × (length more + vec_len l.processors ≡ vec_len l.fn.processors)
      × All (λ q. IsPassOf l.site.jobs.now q × TakesToEnd (seen_of q)) more;
  passes_count : length (passes_in l.passes) + vec_len l.processors ≡ length (passes_in l.fn.passes) + vec_len l.fn.processors;
  roll : (roll_of l.passes ≡ roll_of l.fn.passes) × (pass_room l.passes ≡ pass_room l.fn.passes);
  seats : All (λ seat. IsSeatOf l.site.hall.now seat) (seats_in l.seats);
  seated : (kept : ℕ) → ∥ AreSeated (g.T.Logged.basis_of l.opened.value) (g.T.Logged.log_of l.opened.value) kept (seats_in l.fn.seats) ∥₁ → ∥ AreSeated (g.T.Logged.basis_of l.opened.value) (g.T.Logged.log_of l.opened.value) kept (seats_in l.seats) ∥₁;
}

abbrev pub decreases-loop-processor : goal.decreases-loop-processor
decreases-loop-processor g l = vec_len l.processors
