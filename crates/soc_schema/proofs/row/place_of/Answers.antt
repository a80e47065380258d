use Rattle.std.proofs.Common.{ℕ, ◌+◌, ◌-◌, ◌/◌, ◌<◌, ◌≤◌, length, get_or, arith}
use Rattle.soc_schema.specs.inner.Places.{fields}
use Rattle.soc_schema.proofs.RowLemmas.{places_below, places_above}
use Rattle.soc_schema.proofs.row.place_of.Goals as goal

pub loop-low-preserved-then-field_at-place : goal.loop-low-preserved-then-field_at-place
loop-low-preserved-then-field_at-place c =
    let cells = c.args.cells.now in
    let middle : ℕ = c.loop-low.low + (c.loop-low.high - c.loop-low.low) / 2 in
    let inside : middle < length cells = omega arith in
    let less : get_or (fields cells) middle 0 < c.args.field = omega arith in
    (omega arith, omega arith, places_below 0 cells c.args.field middle c.requires inside less, c.loop-low.invariant.3)

pub loop-low-preserved : goal.loop-low-preserved
loop-low-preserved c =
    let cells = c.args.cells.now in
    let middle : ℕ = c.loop-low.low + (c.loop-low.high - c.loop-low.low) / 2 in
    let reaches : c.args.field ≤ get_or (fields cells) middle 0 = omega arith in
    (omega arith, omega arith, c.loop-low.invariant.2, places_above 0 cells c.args.field middle c.requires reaches)
