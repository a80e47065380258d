use Rattle.std.proofs.Common.{rules}
use Rattle.soc_hall.proofs.Kept.{fronts}
use Rattle.soc_hall.proofs.ask.Hall+T.front.Goals as goal

pub load-requires : goal.load-requires
load-requires g c = let t = c.requires.turn in (c.requires.table, search rules, fronts _ _ _ _ _ _ _ _ _ t.0 t.1)
