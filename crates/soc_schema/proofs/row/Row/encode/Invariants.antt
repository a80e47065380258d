use Rattle.std.proofs.Common.{◌≡◌, ◌++◌, length, take}
use Rattle.std.specs.Int.{to_le_bytes, w32}
use Rattle.std.specs.List.{AllByRecursion}
use Rattle.soc_schema.specs.RowText.{IsValue, cells_text}
use Rattle.soc_schema.proofs.row.Row.encode.Given as goal

abbrev pub invariant-loop-cell : goal.invariant-loop-cell
invariant-loop-cell l =
    (l.bytes.items ≡ to_le_bytes w32 (length l.cells) ++ cells_text (take l.cell-index l.cells)) × AllByRecursion (λ c. IsValue c.value) (take l.cell-index l.cells)
