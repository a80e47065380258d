use Rattle.soc_lives.proofs.Rows as Rows
use Rattle.soc_lives.proofs.laws.rows_are_of_crashes.Goals as goal

pub returns : goal.returns
returns c = Rows.rows_are_of_crashes
