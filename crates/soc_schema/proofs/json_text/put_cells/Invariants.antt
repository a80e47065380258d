use Rattle.std.proofs.Common.{◌≡◌, ◌++◌, take}
use Rattle.soc_schema.specs.Commas.{joined}
use Rattle.soc_schema.specs.inner.Members.{cell_json}
use Rattle.soc_schema.proofs.json_text.put_cells.Given as goal

abbrev pub invariant-loop-i : goal.invariant-loop-i
invariant-loop-i l = l.out.items ≡ l.initial.out.items ++ joined cell_json (take l.i l.cells)
