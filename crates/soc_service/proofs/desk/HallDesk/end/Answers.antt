use Rattle.std.proofs.Common.{◌≤◌, length}
use Rattle.std.specs.Coded.{Coded-set, le_prop, ×_prop}
use Rattle.std.proofs.Math.Logic.{∥∥₁_map}
use Rattle.atomic_table.specs.Seated.{table_id_coded}
use Rattle.soc_hall.specs.Seats.{IsSeatOf, known_of, seen_of}
use Rattle.soc_pool.specs.Passes.{IsPassOf}
use Rattle.soc_service.specs.Desks.{HasTurned}
use Rattle.soc_service.proofs.Options.{at_some, known_some, nil_prop}
use Rattle.soc_service.proofs.desk.HallDesk.end.Goals as goal

pub returns-clause-seat : goal.returns-clause-seat
returns-clause-seat g c = (
  c.in-Some-Some.is-0,
  (known_some (λ s. IsSeatOf c.args.self.hall.now s × (c.args.self.kept ≤ length (seen_of (known_of s)))) c.args.self.seat c.in-Some-Some.seat (×_prop (Coded-set table_id_coded _ _) le_prop) c.in-Some-Some.is-0 c.args.self.sits).0,
)

pub returns-clause-turned : goal.returns-clause-turned
returns-clause-turned g c =
    ∥∥₁_map c.args.self.turned (λ h. at_some (λ s. HasTurned (known_of c.args.self.began.value) (known_of s) c.args.self.kept) c.args.self.seat c.in-Some-Some.seat c.in-Some-Some.is-0 h)

pub returns-clause-pass : goal.returns-clause-pass
returns-clause-pass g c = (
  c.in-Some-Some.is-1,
  known_some (λ p. IsPassOf c.args.self.jobs.now p) c.args.self.pass c.in-Some-Some.pass (×_prop (Coded-set table_id_coded _ _) (nil_prop _)) c.in-Some-Some.is-1 c.args.self.passes,
)
