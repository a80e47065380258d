use Rattle.std.proofs.Common.{arith}
use Rattle.std.proofs.lemmas.List.Sorted.{IsNonDecreasingBy-from_all_adjacent}
use Rattle.soc_symfile.specs.declared.places.Place.{Place}
use Rattle.soc_symfile.proofs.places.are_in_order.Goals as goal

pub returns : goal.returns
returns c = λ _. IsNonDecreasingBy-from_all_adjacent (λ (place : Place). place.key) c.args.places.now
    (λ k d below. c.loop-at.invariant k d (omega (arith, c.loop-at-test.false)))
