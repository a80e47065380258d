use Rattle.std.proofs.Common.{◌≡◌, ◌++◌, take}
use Rattle.soc_schema.specs.Commas.{joined}
use Rattle.soc_query.specs.Json.{facet_json}
use Rattle.soc_query.proofs.json.put_facets.Given as goal

abbrev pub invariant-loop-i : goal.invariant-loop-i
invariant-loop-i l = l.out.items ≡ l.initial.out.items ++ joined facet_json (take l.i l.facets)
