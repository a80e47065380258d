use Rattle.std.proofs.Common.{Some, option_map, ◌∙◌, ap}
use Rattle.soc_step.specs.Machine.{known_values}
use Rattle.soc_walk.proofs.architecture.x86_values.Goals as goal

pub returns-in_err-x86_registers : goal.returns-in_err-x86_registers
returns-in_err-x86_registers c = c.from_residual.ensures ∙ ap (option_map known_values) c.in_err-x86_registers.ensures

pub returns : goal.returns
returns c =
    ap Some (c.known_values.ensures ∙ ap known_values c.widened-registers.ensures) ∙ ap (option_map known_values) c.in_ok-x86_registers.ensures
