use Rattle.std.proofs.Common.{rules}
use Rattle.soc_hall.proofs.Kept.{counts}
use Rattle.soc_hall.proofs.ask.Hall+T.count.Goals as goal

pub fetch_add-requires : goal.fetch_add-requires
fetch_add-requires g c = let t = c.requires.turn in (c.requires.table, search rules, counts _ _ _ _ _ _ _ _ _ t.0 _ t.1 c.requires.done)
