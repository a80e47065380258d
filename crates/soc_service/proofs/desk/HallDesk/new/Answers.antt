use Rattle.std.proofs.Common.{ap}
use Rattle.soc_hall.specs.Seats.{known_of}
use Rattle.soc_service.proofs.Turned.{turned_same}
use Rattle.soc_service.proofs.desk.HallDesk.new.Goals as goal

pub invariant_of-result-clause-turned : goal.invariant_of-result-clause-turned
invariant_of-result-clause-turned g c = ∣ turned_same _ _ (ap (λ s. known_of s) c.of-began.ensures) ∣₁
