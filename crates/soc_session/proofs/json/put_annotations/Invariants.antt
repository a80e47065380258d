use Rattle.std.proofs.Common.{◌≡◌, ◌++◌, take}
use Rattle.soc_schema.specs.Commas.{joined}
use Rattle.soc_session.specs.Json.{annotation_json}
use Rattle.soc_session.proofs.json.put_annotations.Given as goal

abbrev pub invariant-loop-i : goal.invariant-loop-i
invariant-loop-i l = l.out.items ≡ l.initial.out.items ++ joined annotation_json (take l.i l.annotations)
