use Rattle.soc_session.specs.Desk.{ways}
use Rattle.soc_session.proofs.ConnectionLemmas.{Responds-cut, Responds-written}
use Rattle.soc_session.proofs.connection.answer_message.Goals as goal

pub returns-in-Ok-clause-responds : goal.returns-in-Ok-clause-responds
returns-in-Ok-clause-responds g c =
    Responds-written g.K.Desk.Asks (ways c.args.setting.now.rules.now (g.S.Stacks.stack_of c.args.setting.now.stacks.now)) c.args.incoming _ _ _ _ _ _ c.answer-outcome.result c.is_last-last.result c.next_of.result
    (λ message came. c.answer-outcome.ensures message came.content) c.is_last-last.ensures c.in-Ok.ensures.written.takes c.next_of.ensures.next

pub returns-clause-responds : goal.returns-clause-responds
returns-clause-responds g c =
    Responds-cut g.K.Desk.Asks (ways c.args.setting.now.rules.now (g.S.Stacks.stack_of c.args.setting.now.stacks.now)) c.args.incoming _ _ _ _ _ _ c.answer-outcome.result c.is_last-last.result
    (λ message came. c.answer-outcome.ensures message came.content) c.is_last-last.ensures c.in-Err.ensures.front.front
