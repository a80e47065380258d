use Rattle.soc_cfi.specs.Views.{in_force}
use Rattle.soc_step.specs.Step.{value_by}
use Rattle.soc_step.specs.Surroundings.{surroundings}
use Rattle.soc_step.proofs.FillLemmas.{Fills}
use Rattle.soc_step.specs.Views.{registers_of}
use Rattle.soc_step.proofs.cfi.by_rules.Given as goal

abbrev pub invariant-loop-place : goal.invariant-loop-place
invariant-loop-place g l =
    let around = surroundings (g.S.Memory.word l.around) (g.S.Surroundings.is_in_module l.around) (g.S.Surroundings.takes l.around) (g.S.Surroundings.rules l.around) in
    Fills (value_by around (registers_of l.registers) (in_force l.rules) l.pointers) l.values l.place
