use Rattle.soc_pool.proofs.Keeps.{begins}
use Rattle.soc_pool.proofs.jobs.Jobs.new.Goals as goal

pub ruled-requires-clause-rule : goal.ruled-requires-clause-rule
ruled-requires-clause-rule c = begins
