use Rattle.soc_hall.specs.declared.view.Place.TheVariants.{Empty, Rest, Done}
use Rattle.soc_hall.proofs.Closes.{closes}
use Rattle.soc_hall.proofs.close.Hall+T.end.Goals as goal

pub unreachable-requires : goal.unreachable-requires
unreachable-requires g c = closes g.T.Logged.log_of g.T.Logged.basis_of g.T.Logged.answers _ _ _ c.args.chair.id c.args.chair.me.0 _ _ Empty c.requires.chair.2 c.requires.all c.close_with-closed.ensures.values.2 c.in-Empty.ensures.value

pub returns-in-Rest : goal.returns-in-Rest
returns-in-Rest g c = closes g.T.Logged.log_of g.T.Logged.basis_of g.T.Logged.answers _ _ _ c.args.chair.id c.args.chair.me.0 _ _ (Rest c.in-Rest.state) c.requires.chair.2 c.requires.all c.close_with-closed.ensures.values.2 c.in-Rest.ensures.value

pub returns : goal.returns
returns g c = closes g.T.Logged.log_of g.T.Logged.basis_of g.T.Logged.answers _ _ _ c.args.chair.id c.args.chair.me.0 _ _ (Done c.in-Done.state c.in-Done.field-1 c.in-Done.field-2) c.requires.chair.2 c.requires.all c.close_with-closed.ensures.values.2 c.in-Done.ensures.value
