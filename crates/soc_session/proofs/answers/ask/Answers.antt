use Rattle.soc_session.specs.Desk.{ways}
use Rattle.soc_session.proofs.AnswerLemmas.{Carries-asked}
use Rattle.soc_session.proofs.answers.ask.Goals as goal

pub returns : goal.returns
returns g c =
    Carries-asked g.K.Desk.Asks (ways c.args.setting.now.rules.now (g.S.Stacks.stack_of c.args.setting.now.stacks.now)) c.args.question c.shown_to-shown.result c.ask-receipt.result c.args.desk.now c.ask-receipt.new.self c.desk_reply.result c.ok.result
    c.ask-receipt.ensures.asks c.ask-receipt.ensures.kind c.shown_to-shown.ensures c.desk_reply.ensures.ok c.desk_reply.ensures.err c.ok.ensures.value
