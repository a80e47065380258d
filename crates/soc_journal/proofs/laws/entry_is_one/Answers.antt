use Rattle.soc_journal.proofs.Once.{entries_stand}
use Rattle.soc_journal.proofs.laws.entry_is_one.Goals as goal

pub returns : goal.returns
returns c = entries_stand
