use Rattle.std.proofs.Common.{rules, ap, ◌∙◌}
use Rattle.soc_hall.proofs.Kept.{looks}
use Rattle.soc_hall.proofs.ask.Hall+T.wait.Goals as goal

pub load-serving-requires : goal.load-serving-requires
load-serving-requires g c = let t = c.requires.waits in (c.loop.invariant.0 ∙ c.requires.table, search rules, looks _ _ _ _ _ _ _ _ _ t.0 (ap (λ m. m.0.stage) c.loop.invariant.2 ∙ t.2))
