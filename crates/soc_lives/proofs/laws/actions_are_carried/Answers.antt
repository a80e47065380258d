use Rattle.soc_lives.proofs.Carried as Carried
use Rattle.soc_lives.proofs.laws.actions_are_carried.Goals as goal

pub returns-clause-groups : goal.returns-clause-groups
returns-clause-groups g c = λ disk disk' last. Carried.groups_are_carried (g.D.Disk.state disk) (g.D.Disk.state disk') (g.D.Disk.state last)

pub returns-clause-keeping : goal.returns-clause-keeping
returns-clause-keeping g c = λ disk disk' last. Carried.keeping_is_carried (g.D.Disk.state disk) (g.D.Disk.state disk') (g.D.Disk.state last)
