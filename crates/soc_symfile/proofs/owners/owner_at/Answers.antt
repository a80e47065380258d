use Rattle.soc_symfile.proofs.TableLemmas.{laid-at}
use Rattle.soc_symfile.proofs.owners.owner_at.Goals as goal

pub returns-clause-order : goal.returns-clause-order
returns-clause-order c = (laid-at c.args.owners.now c.args.count c.args.at _ c.requires.laid c.requires.inside).0

pub returns-clause-bound : goal.returns-clause-bound
returns-clause-bound c = (laid-at c.args.owners.now c.args.count c.args.at _ c.requires.laid c.requires.inside).1
