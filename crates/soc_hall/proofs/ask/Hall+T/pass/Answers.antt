use Rattle.std.proofs.Common.{rules}
use Rattle.soc_hall.proofs.Kept.{passes}
use Rattle.soc_hall.proofs.ask.Hall+T.pass.Goals as goal

pub fetch_add-requires : goal.fetch_add-requires
fetch_add-requires g c = let t = c.requires.turn in let x = c.requires.state in (c.requires.table, search rules, passes _ _ _ _ _ _ _ _ _ t.0 t.1 x.0 x.1 x.2)
