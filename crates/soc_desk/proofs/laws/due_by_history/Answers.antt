use Rattle.soc_desk.proofs.Dues.{due_by_history}
use Rattle.soc_desk.proofs.laws.due_by_history.Goals as goal

pub returns : goal.returns
returns c = due_by_history
