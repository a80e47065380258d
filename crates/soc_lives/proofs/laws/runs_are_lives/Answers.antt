use Rattle.soc_lives.proofs.Carried as Carried
use Rattle.soc_lives.proofs.laws.runs_are_lives.Goals as goal

pub returns : goal.returns
returns g c = λ last. Carried.runs_are_lives (g.D.Disk.state last).since
