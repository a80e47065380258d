use Rattle.soc_replay.proofs.LifeLemmas.{run_lives}
use Rattle.soc_replay.proofs.laws.runs_are_lives.Goals as goal

pub returns : goal.returns
returns g c = λ disk disk' bytes content by streams streams' ahead ahead' end how run. run_lives (g.D.Disk.state disk) (g.D.Disk.state disk') bytes content by streams streams' ahead ahead' end how run
