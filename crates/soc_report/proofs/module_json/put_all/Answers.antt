use Rattle.std.proofs.Common.{map, arith}
use Rattle.std.proofs.lemmas.List.{length-map}
use Rattle.soc_dump.specs.Views.{module_entry}
use Rattle.soc_report.specs.Kits.{kit_of}
use Rattle.soc_report.specs.StackText.{module_json}
use Rattle.soc_report.proofs.JsonLemmas.{copied_step, joined_all}
use Rattle.soc_report.proofs.module_json.put_all.Goals as goal

pub loop-place-preserved : goal.loop-place-preserved
loop-place-preserved c =
    copied_step (module_json (kit_of c.args.kit.now)) module_entry c.args.modules.now c.loop-place.place _ c.args.out.now.items c.loop-place.out.items c.put_comma.new.out.items _ c.loop-place-test.true c.loop-place.invariant c.in_ok-put_comma.ensures c.in_ok-put_module.ensures

pub returns : goal.returns
returns c =
    joined_all (module_json (kit_of c.args.kit.now)) (map module_entry c.args.modules.now) c.loop-place.place c.args.out.now.items c.loop-place.out.items (omega (arith, length-map c.args.modules.now module_entry, c.loop-place-test.false)) c.loop-place.invariant
