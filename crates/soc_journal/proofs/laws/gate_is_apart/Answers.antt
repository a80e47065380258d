use Rattle.soc_journal.proofs.Apart.{apart}
use Rattle.soc_journal.proofs.laws.gate_is_apart.Goals as goal

pub returns : goal.returns
returns c = apart
