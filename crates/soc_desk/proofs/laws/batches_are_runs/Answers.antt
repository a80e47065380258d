use Rattle.soc_desk.proofs.Together as Together
use Rattle.soc_desk.proofs.laws.batches_are_runs.Goals as goal

pub returns : goal.returns
returns c = Together.batches_are_runs
