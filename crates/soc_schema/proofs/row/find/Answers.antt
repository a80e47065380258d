use Rattle.std.proofs.Common.{◌<◌, ◌∙◌, length, sym, arith}
use Rattle.soc_schema.proofs.RowLemmas.{LacksFieldAt-from_next}
use Rattle.soc_schema.proofs.row.find.Goals as goal

pub returns-clause-place : goal.returns-clause-place
returns-clause-place c =
    let cells = c.args.cells.now in
    let place = c.place_of-place.result in
    let inside : place < length cells = omega arith in
    LacksFieldAt-from_next cells c.args.field place c.requires inside c.place_of-place.ensures.below (c.place_of-place.ensures.above place (omega arith) inside) (λ same. c.if-field_at-target.false (c.field_at.ensures ∙ (same ∙ sym c.place-target.ensures.value)))
