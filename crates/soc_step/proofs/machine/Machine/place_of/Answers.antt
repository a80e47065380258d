use Rattle.std.proofs.Common.{sym, ◌∙◌}
use Rattle.soc_step.specs.Machine.{is_called}
use Rattle.soc_step.specs.Views.{register_of}
use Rattle.soc_step.proofs.PlaceLemmas.{position-map}
use Rattle.soc_step.proofs.machine.Machine.place_of.Goals as goal

pub returns : goal.returns
returns c = c.place_among.ensures ∙ sym (position-map register_of (is_called c.args.name.now) c.args.self.now.registers.now)
