use Rattle.std.proofs.Common.{◌≡◌, take}
use Rattle.soc_schema.specs.Permits.{granted_cells}
use Rattle.soc_schema.proofs.row.Row.shown.Given as goal

abbrev pub invariant-loop-cell : goal.invariant-loop-cell
invariant-loop-cell l = l.cells.items ≡ granted_cells l.caller (take l.cell-index l.cell-items)
