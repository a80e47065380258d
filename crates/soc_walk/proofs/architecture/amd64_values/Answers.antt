use Rattle.std.proofs.Common.{Some, option_map, ◌∙◌, ap}
use Rattle.soc_step.specs.Machine.{known_values}
use Rattle.soc_walk.proofs.architecture.amd64_values.Goals as goal

pub returns-in_err-registers : goal.returns-in_err-registers
returns-in_err-registers c = c.from_residual.ensures ∙ ap (option_map known_values) c.in_err-registers.ensures

pub returns : goal.returns
returns c = ap Some c.known_values.ensures ∙ ap (option_map known_values) c.in_ok-registers.ensures
