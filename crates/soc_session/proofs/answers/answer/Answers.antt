use Rattle.std.proofs.Common.{[]}
use Rattle.soc_edge.proofs.Ahead.{Hands-none}
use Rattle.soc_session.specs.Desk.{ways}
use Rattle.soc_session.proofs.AnswerLemmas.{Answers-done, Answers-wanting}
use Rattle.soc_session.proofs.answers.answer.Goals as goal

pub returns-in_default : goal.returns-in_default
returns-in_default g c = λ message says.
    Answers-wanting g.K.Desk.Asks (ways c.args.setting.now.rules.now (g.S.Stacks.stack_of c.args.setting.now.stacks.now)) message c.args.desk.now _ _ [] c.wanting.result tt (Hands-none _) c.wanting.ensures

pub returns-in-Ok : goal.returns-in-Ok
returns-in-Ok g c = λ message says.
    let here = rw c.in-Some.is at says in
    Answers-done g.K.Desk.Asks (ways c.args.setting.now.rules.now (g.S.Stacks.stack_of c.args.setting.now.stacks.now)) message c.in-Ok.plan _ _ _ _ c.carry_out.result (c.in-Ok.ensures message here) c.carry_out.ensures

pub returns-in-Err : goal.returns-in-Err
returns-in-Err g c = λ message says.
    let here = rw c.in-Some.is at says in
    let draws = c.in-Err.ensures message here in
    Answers-wanting g.K.Desk.Asks (ways c.args.setting.now.rules.now (g.S.Stacks.stack_of c.args.setting.now.stacks.now)) message c.args.desk.now _ _ draws.drawn c.wanting-in-Err.result draws.plans draws.hands c.wanting-in-Err.ensures
