use Rattle.std.proofs.Common.{◌≡◌, ◌++◌, map, take}
use Rattle.soc_dump.specs.Views.{module_entry}
use Rattle.soc_schema.specs.Commas.{joined}
use Rattle.soc_report.specs.Kits.{kit_of}
use Rattle.soc_report.specs.StackText.{module_json}
use Rattle.soc_report.proofs.module_json.put_all.Given as goal

-- the modules so far
abbrev pub invariant-loop-place : goal.invariant-loop-place
invariant-loop-place l = l.out.items ≡ l.initial.out.items ++ joined (module_json (kit_of l.kit)) (take l.place (map module_entry l.modules))
