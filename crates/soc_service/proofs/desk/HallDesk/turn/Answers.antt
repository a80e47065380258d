use Rattle.std.proofs.Common.{◌+◌, ◌≤◌, length, sym, ap, ◌∙◌, arith}
use Rattle.std.specs.Coded.{Coded-set, le_prop, ×_prop}
use Rattle.std.proofs.Math.Logic.{∥∥₁_map}
use Rattle.atomic_table.specs.Seated.{table_id_coded}
use Rattle.soc_hall.specs.Seats.{IsSeatOf, known_of, seen_of}
use Rattle.soc_service.proofs.Asked.{turn_of}
use Rattle.soc_service.proofs.Counted.{added_is, by_keeps, fits, rises, stays_below}
use Rattle.soc_service.specs.Desks.{HasTurned}
use Rattle.soc_service.proofs.Options.{at_some, is_some_and, known_some}
use Rattle.soc_service.proofs.Turned.{by_turn, turned_more}
use Rattle.soc_service.proofs.desk.HallDesk.turn.Goals as goal

pub take_turn-seat-requires-clause-seat : goal.take_turn-seat-requires-clause-seat
take_turn-seat-requires-clause-seat g c =
    (known_some (λ s. IsSeatOf c.args.self.now.hall.now s × (c.args.self.now.kept ≤ length (seen_of (known_of s)))) c.args.self.now.seat c.in-Some.seat (×_prop (Coded-set table_id_coded _ _) le_prop)
    (sym c.take.ensures.value ∙ c.in-Some.is) c.args.self.now.sits).0

pub kept_between-kept-requires : goal.kept_between-kept-requires
kept_between-kept-requires g c =
    rises g.T.Logged g.T.SharedDesk.command_of g.T.SharedDesk.desk_of g.met.T.SharedDesk.tells (turn_of g.T.Logged g.T.SharedDesk.command_of c.take_turn-seat.ensures.turn)

pub overflow_add-self : goal.overflow_add-self
overflow_add-self g c =
    let few = (known_some (λ s. IsSeatOf c.args.self.now.hall.now s × (c.args.self.now.kept ≤ length (seen_of (known_of s)))) c.args.self.now.seat c.in-Some.seat (×_prop (Coded-set table_id_coded _ _) le_prop)
    (sym c.take.ensures.value ∙ c.in-Some.is) c.args.self.now.sits).1 in
    omega (
      arith,
      fits g.T.Logged g.T.SharedDesk.command_of g.T.SharedDesk.desk_of g.met.T.SharedDesk.tells (turn_of g.T.Logged g.T.SharedDesk.command_of c.take_turn-seat.ensures.turn) c.args.self.now.kept c.kept_between-kept.result few
          (by_keeps _ _ _ _ c.keeps_all-keeps.ensures c.kept_between-kept.ensures),
    )

pub invariant_of-self-clause-sits : goal.invariant_of-self-clause-sits
invariant_of-self-clause-sits g c =
    let few = (known_some (λ s. IsSeatOf c.args.self.now.hall.now s × (c.args.self.now.kept ≤ length (seen_of (known_of s)))) c.args.self.now.seat c.in-Some.seat (×_prop (Coded-set table_id_coded _ _) le_prop)
    (sym c.take.ensures.value ∙ c.in-Some.is) c.args.self.now.sits).1 in
    ∣ (
      c.take_turn-seat.ensures.seat,
      stays_below g.T.Logged g.T.SharedDesk.command_of g.T.SharedDesk.desk_of g.met.T.SharedDesk.tells (turn_of g.T.Logged g.T.SharedDesk.command_of c.take_turn-seat.ensures.turn) c.args.self.now.kept c.kept_between-kept.result few
          (by_keeps _ _ _ _ c.keeps_all-keeps.ensures c.kept_between-kept.ensures),
    ) ∣₁

pub invariant_of-self-clause-turned : goal.invariant_of-self-clause-turned
invariant_of-self-clause-turned g c =
    let turn = turn_of g.T.Logged g.T.SharedDesk.command_of c.take_turn-seat.ensures.turn in
    let before = c.args.self.now in
    ∥∥₁_map before.turned
    (λ h. turned_more _ _ _ _ _ (at_some (λ s. HasTurned (known_of before.began.value) (known_of s) before.kept) before.seat c.in-Some.seat (sym c.take.ensures.value ∙ c.in-Some.is) h)
    (by_turn g.T.Logged g.T.SharedDesk.command_of _ _ _ _ turn c.kept_between-kept.result
    (sym (added_is g.T.Logged g.T.SharedDesk.command_of g.T.SharedDesk.desk_of g.met.T.SharedDesk.tells turn c.kept_between-kept.result (by_keeps _ _ _ _ c.keeps_all-keeps.ensures c.kept_between-kept.ensures)))))

pub returns-clause-turn : goal.returns-clause-turn
returns-clause-turn g c =
    let turn = turn_of g.T.Logged g.T.SharedDesk.command_of c.take_turn-seat.ensures.turn in
    is_some_and _ _ c.in-Some.seat (sym c.take.ensures.value ∙ c.in-Some.is) (
      turn,
      ap (λ n. c.args.self.now.kept + n)
          (added_is g.T.Logged g.T.SharedDesk.command_of g.T.SharedDesk.desk_of g.met.T.SharedDesk.tells turn c.kept_between-kept.result (by_keeps _ _ _ _ c.keeps_all-keeps.ensures c.kept_between-kept.ensures)),
    )
