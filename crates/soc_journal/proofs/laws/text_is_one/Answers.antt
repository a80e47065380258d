use Rattle.soc_journal.proofs.Once.{text_once}
use Rattle.soc_journal.proofs.laws.text_is_one.Goals as goal

pub returns : goal.returns
returns c = text_once
