use Rattle.std.proofs.Common.{rules, ap, ◌∙◌}
use Rattle.soc_hall.proofs.Meets.{notes, hears, compares}
use Rattle.soc_hall.proofs.meet.Hall+T.tell.Goals as goal

pub split_seat-note-requires : goal.split_seat-note-requires
split_seat-note-requires g c = (c.requires.teller.0, search rules, notes _ _ _ _ _ _ _ _)

pub join_seat-requires : goal.join_seat-requires
join_seat-requires g c = (c.requires.hearer.0, search rules, search rules, search rules, hears _ _ _ _ _ _ _ _ _ _ c.requires.hearer.2 (ap (λ m. m.0.stage) c.split_seat-note.ensures.4) (ap (λ m. m.0.parts) c.split_seat-note.ensures.4) (ap (λ m. m.0.gone) c.split_seat-note.ensures.4))

pub load-requires : goal.load-requires
load-requires g c = (search rules, search rules, compares _ _ _ _ _ _ _ _ _ (ap (λ m. m.0.stage) c.join_seat.ensures.2 ∙ c.requires.hearer.2))
