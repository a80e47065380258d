use Rattle.std.proofs.Common.{map, sym, ap, arith, ◌∙◌}
use Rattle.std.proofs.lemmas.List.{length-take-le, take-map, take_all}
use Rattle.soc_dump.specs.Views.{module_entry}
use Rattle.soc_report.proofs.module_json.first_modules.Goals as goal

pub slice_bounds-result-end : goal.slice_bounds-result-end
slice_bounds-result-end c = sym (length-take-le 1024 c.args.modules.now (omega (arith, c.if-modules-gt-MOST_MODULES.true)))

pub returns-then-modules-gt-MOST_MODULES : goal.returns-then-modules-gt-MOST_MODULES
returns-then-modules-gt-MOST_MODULES c = sym (take-map module_entry 1024 c.args.modules.now)

pub returns-else-modules-gt-MOST_MODULES : goal.returns-else-modules-gt-MOST_MODULES
returns-else-modules-gt-MOST_MODULES c =
    sym (take-map module_entry 1024 c.args.modules.now ∙ ap (map module_entry) (take_all 1024 c.args.modules.now c.if-modules-gt-MOST_MODULES.false))
