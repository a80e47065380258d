use Rattle.soc_journal.proofs.Once.{fault_once}
use Rattle.soc_journal.proofs.laws.fault_is_one.Goals as goal

pub returns : goal.returns
returns c = fault_once
