use Rattle.soc_desk.proofs.Unseen.{keeps_views}
use Rattle.soc_desk.proofs.laws.keeps_views.Goals as goal

pub returns : goal.returns
returns c = keeps_views
