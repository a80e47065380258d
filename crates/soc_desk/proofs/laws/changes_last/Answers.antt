use Rattle.soc_desk.proofs.Lasting.{asked_lasts, lasts_on}
use Rattle.soc_desk.proofs.laws.changes_last.Goals as goal

pub returns-clause-asked : goal.returns-clause-asked
returns-clause-asked g c basis before after command receipt disk disk' is_told asks =
    asked_lasts basis before after command receipt (g.D.Disk.state disk) (g.D.Disk.state disk') is_told asks

pub returns-clause-goes_on : goal.returns-clause-goes_on
returns-clause-goes_on g c first second third disk disk' disk'' here later =
    lasts_on first second third (g.D.Disk.state disk) (g.D.Disk.state disk') (g.D.Disk.state disk'') here later
