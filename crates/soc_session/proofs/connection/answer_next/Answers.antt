use Rattle.soc_session.specs.Desk.{ways}
use Rattle.soc_session.proofs.ConnectionLemmas.{Serves-ended, Serves-halted, Steps-on}
use Rattle.soc_session.proofs.connection.answer_next.Goals as goal

pub returns-in-Ok-None-clause-steps : goal.returns-in-Ok-None-clause-steps
returns-in-Ok-None-clause-steps g c =
    let arrives = rw c.in-Ok-None.field-0-is at c.in-Ok-None.ensures.arrives in
    Serves-ended g.K.Desk.Asks (ways c.args.setting.now.rules.now (g.S.Stacks.stack_of c.args.setting.now.stacks.now)) _ _ _ _ _ _ arrives

pub returns-in-Ok-Some-clause-steps : goal.returns-in-Ok-Some-clause-steps
returns-in-Ok-Some-clause-steps g c =
    let arrives = rw c.in-Ok-Some.field-0-is at c.in-Ok-Some.ensures.arrives in
    Steps-on g.K.Desk.Asks (ways c.args.setting.now.rules.now (g.S.Stacks.stack_of c.args.setting.now.stacks.now)) _ _ _ _ _ _ _ _ _ _ _ arrives c.answer_message.ensures.only c.answer_message.ensures.responds

pub returns-in-Err-clause-steps : goal.returns-in-Err-clause-steps
returns-in-Err-clause-steps g c =
    Serves-halted g.K.Desk.Asks (ways c.args.setting.now.rules.now (g.S.Stacks.stack_of c.args.setting.now.stacks.now)) _ _ _ _ _ _ _ _ _ c.in-Err.ensures.arrives c.halt.ensures.only c.halt.ensures.halts
