use Rattle.std.proofs.Common.{◌+◌, ◌-◌, ◌/◌, arith}
use Rattle.soc_store.proofs.PlaceLemmas.{places_rise}
use Rattle.soc_store.proofs.term.place_after.Goals as goal

pub loop-low-preserved-then-places-middle : goal.loop-low-preserved-then-places-middle
loop-low-preserved-then-places-middle c =
    let middle = c.loop-low.low + (c.loop-low.high - c.loop-low.low) / 2 in
    (omega arith, omega arith, λ k h. let up = places_rise c.args.places.now k middle c.requires (omega arith) (omega arith) in omega arith, c.loop-low.invariant.3)

pub loop-low-preserved : goal.loop-low-preserved
loop-low-preserved c =
    let middle = c.loop-low.low + (c.loop-low.high - c.loop-low.low) / 2 in
    (omega arith, omega arith, c.loop-low.invariant.2, λ k h h'. let up = places_rise c.args.places.now middle k c.requires h h' in omega arith)
