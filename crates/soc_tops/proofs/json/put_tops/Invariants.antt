use Rattle.std.proofs.Common.{◌≡◌, ◌++◌, take}
use Rattle.soc_schema.specs.Commas.{joined}
use Rattle.soc_tops.specs.Json.{top_json}
use Rattle.soc_tops.proofs.json.put_tops.Given as goal

abbrev pub invariant-loop-i : goal.invariant-loop-i
invariant-loop-i l = l.out.items ≡ l.initial.out.items ++ joined top_json (take l.i l.tops)
