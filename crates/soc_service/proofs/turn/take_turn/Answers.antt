use Rattle.std.proofs.Common.{sym, subst}
use Rattle.soc_hall.specs.Seats.{known_of, seen_of}
use Rattle.soc_service.specs.Answers.{MayAsk}
use Rattle.soc_service.proofs.turn.take_turn.Goals as goal

pub ask-requires-clause-may : goal.ask-requires-clause-may
ask-requires-clause-may g c basis known =
    g.met.T.SharedDesk.allows basis _ c.prepare-prepared.result
    (subst (λ command. MayAsk (g.T.SharedDesk.desk_of basis) (seen_of (known_of c.args.seat)) command) (sym c.prepare-prepared.ensures) (c.requires.may basis known))

pub returns-clause-turn : goal.returns-clause-turn
returns-clause-turn g c = (c.prepare-prepared.result, c.prepare-prepared.ensures, c.ask.ensures.turn)
