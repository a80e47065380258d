use Rattle.std.proofs.Common.{rules, ap}
use Rattle.soc_hall.proofs.Opens.{splits, numbers}
use Rattle.soc_hall.proofs.hall.Hall+T.another.Goals as goal

pub split_seat-other-requires : goal.split_seat-other-requires
split_seat-other-requires g c = (c.requires.chair.0.0, search rules, splits _ _ _ _ _ _ _ _ c.requires.chair.0.2 c.requires.parts)

pub load-requires : goal.load-requires
load-requires g c = (search rules, search rules, numbers _ _ _ _ _ _ _ _ _ (ap (λ m. m.0.stage) c.split_seat-other.ensures.4))
