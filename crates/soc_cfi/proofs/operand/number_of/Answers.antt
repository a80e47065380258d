use Rattle.soc_cfi.proofs.OperandLemmas.{number_given}
use Rattle.soc_cfi.proofs.operand.number_of.Goals as goal

pub returns : goal.returns
returns c = rw c.ok.ensures.value (number_given c.args.digits.now c.parse.result c.requires.some c.requires.digits c.parse.ensures.value.0)
