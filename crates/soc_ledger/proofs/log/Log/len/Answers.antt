use Rattle.std.proofs.Common.{arith}
use Rattle.soc_ledger.proofs.log.Log.len.Goals as goal

pub returns-clause-below : goal.returns-clause-below
returns-clause-below c = omega (arith, c.as_slice-events.type_inv)
