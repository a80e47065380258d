use Rattle.std.proofs.Common.{rules, refl, ◌-◌}
use Rattle.soc_hall.proofs.Ways.{may_turn, after_turn, asked}
use Rattle.soc_hall.proofs.ask.Hall+T.ask.Goals as goal

pub turn-reply-requires : goal.turn-reply-requires
turn-reply-requires g c = may_turn g.T.Logged.log_of g.T.Logged.basis_of g.T.Logged.may_ask g.met.T.Logged.may_still c.args.seat.chair.me c.enter-ticket.new.chair.me c.enter-ticket.result.state c.args.command c.enter-ticket.ensures.entered c.enter-ticket.ensures.state c.requires.may

pub leave-requires-clause-after : goal.leave-requires-clause-after
leave-requires-clause-after g c = after_turn g.T.Logged.log_of g.T.Logged.basis_of g.T.Logged.answers c.enter-ticket.new.chair.me.0 c.enter-ticket.result.state c.turn-reply.new.self c.args.command _ c.turn-reply.result _ c.enter-ticket.result.start c.front-front.result
    c.enter-ticket.ensures.state c.turn-reply.ensures.log c.turn-reply.ensures.basis c.enter-ticket.ensures.start c.front-front.ensures (search rules) c.of-asked.ensures c.of-replied.ensures c.turn-reply.ensures.answers

pub returns-clause-turn : goal.returns-clause-turn
returns-clause-turn g c = asked g.T.Logged.log_of g.T.Logged.basis_of g.T.Logged.answers g.T.Logged.asks c.args.seat.chair.me c.enter-ticket.new.chair.me c.leave.new.chair.me (c.front-front.result - c.enter-ticket.result.start) c.enter-ticket.result.state c.turn-reply.new.self c.args.command _ c.turn-reply.result _ _
    c.enter-ticket.ensures.entered c.enter-ticket.ensures.state
    (after_turn g.T.Logged.log_of g.T.Logged.basis_of g.T.Logged.answers c.enter-ticket.new.chair.me.0 c.enter-ticket.result.state c.turn-reply.new.self c.args.command _ c.turn-reply.result _ c.enter-ticket.result.start c.front-front.result
    c.enter-ticket.ensures.state c.turn-reply.ensures.log c.turn-reply.ensures.basis c.enter-ticket.ensures.start c.front-front.ensures (search rules) c.of-asked.ensures c.of-replied.ensures c.turn-reply.ensures.answers)
    c.leave.ensures.left c.turn-reply.ensures.asks c.of-asked.ensures c.of-replied.ensures c.enter-ticket.ensures.start c.front-front.ensures refl
