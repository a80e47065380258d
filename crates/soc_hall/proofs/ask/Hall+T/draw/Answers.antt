use Rattle.std.proofs.Common.{rules}
use Rattle.soc_hall.proofs.Kept.{draws}
use Rattle.soc_hall.proofs.ask.Hall+T.draw.Goals as goal

pub fetch_add-requires : goal.fetch_add-requires
fetch_add-requires g c = (c.requires.0, search rules, draws _ _ _ _ _ _ _ _ _ c.requires.2)
