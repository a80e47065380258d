use Rattle.std.proofs.Common.{refl}
use Rattle.soc_cfi.proofs.OperandLemmas.{digits_given}
use Rattle.soc_cfi.proofs.operand.digits_of.Goals as goal

pub returns : goal.returns
returns c = rw c.unwrap_or.ensures (digits_given c.args.token.now c.strip_prefix.result c.args.token refl c.strip_prefix.ensures.cases)
