use Rattle.std.proofs.Common.{◌≡◌, ◌++◌, take}
use Rattle.std.specs.List.{flat_map}
use Rattle.soc_pages.specs.Pages.{column_cell}
use Rattle.soc_pages.proofs.search.put_cells.Given as goal

abbrev pub invariant-loop-column : goal.invariant-loop-column
invariant-loop-column l = l.out.items ≡ l.initial.out.items ++ flat_map (column_cell l.hit) (take l.column-index l.columns)
