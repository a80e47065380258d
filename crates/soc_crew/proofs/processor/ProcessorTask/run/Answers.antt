use Rattle.std.proofs.Common.{refl, sym, ◌∙◌, subst}
use Rattle.soc_base.proofs.Folk.{some-injective}
use Rattle.soc_hall.specs.Seats.{known_of}
use Rattle.soc_service.specs.Desks.{HasTurned}
use Rattle.soc_crew.proofs.processor.ProcessorTask.run.Goals as goal

pub returns : goal.returns
returns g c =
    let seat_is = some-injective (sym c.in-Some-Some.is-0 ∙ (c.take.ensures.value ∙ c.requires.ready.0)) in
    record {
      did = (
        refl,
        refl,
        (
          c.work_on-seat.ensures.seat.0,
          subst (λ s. HasTurned (known_of s) (known_of c.work_on-seat.result.0) 0) seat_is c.work_on-seat.ensures.seat.1,
        ),
        c.work_on-seat.ensures.pass,
      );
    }
