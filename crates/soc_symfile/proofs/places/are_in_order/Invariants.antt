use Rattle.std.proofs.Common.{◌≤◌}
use Rattle.std.specs.List.{AllAdjacentBelow}
use Rattle.soc_symfile.specs.declared.places.Place.{Place}
use Rattle.soc_symfile.proofs.places.are_in_order.Given as goal

abbrev pub invariant-loop-at : goal.invariant-loop-at
invariant-loop-at l = AllAdjacentBelow (λ (x y : Place). x.key ≤ y.key) l.places l.at
