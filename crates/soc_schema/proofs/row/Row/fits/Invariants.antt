use Rattle.std.proofs.Common.{◌≡◌, ◌+◌, length, take}
use Rattle.soc_schema.specs.RowText.{cells_text}
use Rattle.soc_schema.proofs.row.Row.fits.Given as goal

abbrev pub invariant-loop-cell : goal.invariant-loop-cell
invariant-loop-cell l = l.left + length (cells_text (take l.cell-index l.cells)) + 4 ≡ l.most
