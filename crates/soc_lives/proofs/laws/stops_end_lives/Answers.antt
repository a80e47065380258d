use Rattle.soc_lives.proofs.Carried as Carried
use Rattle.soc_lives.proofs.laws.stops_end_lives.Goals as goal

pub returns : goal.returns
returns g c = λ last. Carried.stops_end_lives (g.D.Disk.state last).since
