use Rattle.std.proofs.Common.{◌≡◌, ◌++◌, take}
use Rattle.soc_schema.specs.RowJson.{row_json}
use Rattle.soc_schema.specs.Commas.{joined}
use Rattle.soc_query.proofs.json.put_rows.Given as goal

abbrev pub invariant-loop-i : goal.invariant-loop-i
invariant-loop-i l = l.out.items ≡ l.initial.out.items ++ joined row_json (take l.i l.rows)
