use Rattle.soc_serve.proofs.Lived.{service_lives}
use Rattle.soc_serve.proofs.laws.services_are_lives.Goals as goal

pub returns : goal.returns
returns g c = λ disk disk' bytes content by crew kept ring streams streams' ahead ahead' end run. service_lives (g.D.Disk.state disk) (g.D.Disk.state disk') bytes content by crew kept ring streams streams' ahead ahead' end run
