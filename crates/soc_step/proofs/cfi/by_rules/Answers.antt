use Rattle.std.proofs.Common.{◌≡◌, List, Some, option_map, refl, ◌∙◌, ap, arith}
use Rattle.soc_cfi.specs.Rules.{Rule}
use Rattle.soc_cfi.specs.Views.{in_force}
use Rattle.soc_step.specs.declared.cfi.Pointers.{Pointers}
use Rattle.soc_step.specs.Machine.{Registers, Values, values_by}
use Rattle.soc_step.specs.Step.{by_rules, pointers_by, value_by}
use Rattle.soc_step.specs.Surroundings.{Surroundings, surroundings}
use Rattle.soc_step.specs.Views.{registers_of}
use Rattle.soc_step.proofs.FillLemmas.{fills-none, fills-more, fills-all}
use Rattle.soc_step.proofs.cfi.by_rules.Goals as goal

filled : (around : Surroundings) (registers : Registers) (rules : List Rule) (pointers : Pointers) (values : Values) → Some pointers ≡ pointers_by around registers rules → values ≡ values_by (value_by around registers rules pointers) → Some values ≡ by_rules around registers rules
filled around registers rules pointers values is all =
    ap Some all ∙ ap (option_map (λ p. values_by (value_by around registers rules p))) is

pub loop-place-init : goal.loop-place-init
loop-place-init g c = fills-none _ _ refl

pub loop-place-preserved : goal.loop-place-preserved
loop-place-preserved g c = fills-more _ _ _ _ (omega arith) c.loop-place.invariant c.value_by.ensures

pub returns : goal.returns
returns g c =
    let around = surroundings (g.S.Memory.word c.args.around.now) (g.S.Surroundings.is_in_module c.args.around.now) (g.S.Surroundings.takes c.args.around.now) (g.S.Surroundings.rules c.args.around.now) in
    filled around (registers_of c.args.registers.now) (in_force c.args.rules.now) c.in_ok-pointers.pointers _ c.in_ok-pointers.ensures (fills-all _ _ _ (omega arith) c.loop-place.invariant)
