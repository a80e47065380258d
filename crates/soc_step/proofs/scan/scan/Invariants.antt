use Rattle.std.proofs.Common.{◌≡◌, ◌-◌}
use Rattle.soc_step.specs.Step.{scan}
use Rattle.soc_step.specs.Surroundings.{surroundings}
use Rattle.soc_step.specs.Views.{registers_of}
use Rattle.soc_step.proofs.scan.scan.Given as goal

-- the whole scan finds what the scan of the words that are left finds
abbrev pub invariant-loop : goal.invariant-loop
invariant-loop g l =
    let around = surroundings (g.S.Memory.word l.around) (g.S.Surroundings.is_in_module l.around) (g.S.Surroundings.takes l.around) (g.S.Surroundings.rules l.around) in
    scan around (registers_of l.registers) l.words l.start ≡ scan around (registers_of l.registers) (l.words - l.counter) l.address
