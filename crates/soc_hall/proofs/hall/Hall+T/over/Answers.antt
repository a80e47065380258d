use Rattle.std.proofs.Common.{◌≡◌, refl, ap, ◌∙◌, ◌++◌, ◌∷◌, []}
use Rattle.std.proofs.lemmas.List.Elements.{All-weaker}
use Rattle.soc_hall.specs.declared.view.Place.TheVariants.{Rest}
use Rattle.soc_hall.specs.Seats.{known_of, IsNew}
use Rattle.soc_hall.proofs.News.{new_at}
use Rattle.soc_hall.proofs.Opens.{starts_with}
use Rattle.soc_hall.proofs.hall.Hall+T.over.Goals as goal

pub new-requires : goal.new-requires
new-requires g c = starts_with g.T.Logged.log_of g.T.Logged.basis_of g.T.Logged.answers _ c.args.state c.args.seats _ c.push_reserved.new.self.items c.requires.0 c.requires.1 c.front.ensures c.of.ensures refl
    (c.push_reserved.ensures.items ∙ ap (λ l. l ++ Rest c.args.state ∷ []) c.in-Ok-with_capacity.ensures.items)

pub returns-in-Ok-new-clause-each : goal.returns-in-Ok-new-clause-each
returns-in-Ok-new-clause-each g c =
    let key = c.in-Ok-new.table.shared.key.state.value in
    let same = ap (λ k. k.state.value) c.in-Ok-new.ensures.ok.5 ∙ c.of.ensures in
    All-weaker (λ seat. (seat.chair.table_id ≡ c.in-Ok-new.table.shared.table_id) × IsNew (g.T.Logged.basis_of key) (g.T.Logged.log_of key) (known_of seat)) (λ seat. (seat.chair.table_id ≡ c.in-Ok-new.table.shared.table_id) × IsNew (g.T.Logged.basis_of c.args.state) (g.T.Logged.log_of c.args.state) (known_of seat))
    (λ seat h. (h.0, new_at _ _ _ _ (known_of seat) (ap g.T.Logged.basis_of same) (ap g.T.Logged.log_of same) h.1)) _ c.fill-seats.ensures.each
