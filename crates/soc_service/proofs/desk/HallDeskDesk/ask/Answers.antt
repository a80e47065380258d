use Rattle.std.proofs.Common.{◌||◌, ap, ◌∙◌}
use Rattle.soc_service.specs.Due.{due_after}
use Rattle.soc_service.proofs.Asked.{of_kind, puts_on, takes_on}
use Rattle.soc_service.proofs.desk.HallDeskDesk.ask.Goals as goal

pub returns-clause-asks : goal.returns-clause-asks
returns-clause-asks g c = (
  c.put.ensures.same.0 ∙ c.turn-receipt.ensures.same.0,
  c.put.ensures.same.1 ∙ c.turn-receipt.ensures.same.1,
  takes_on g.T.Logged g.T.SharedDesk.command_of _ _ _ _ _ _ _ _ c.put.ensures.same.2 c.put.ensures.same.4 c.turn-receipt.ensures.turn,
  puts_on _ _ _ _ _ c.turn-receipt.ensures.same.2 (c.due_after.ensures ∙ ap (λ id. due_after id c.turn-receipt.result.reply) c.asked_id-asked.ensures) c.put.ensures.put,
  c.is_either-self.ensures ∙ ap (λ b. b || c.turn-receipt.result.stopped) (c.put.ensures.same.3 ∙ c.turn-receipt.ensures.same.3),
  c.put.ensures.same.5 ∙ c.turn-receipt.ensures.same.4,
)

pub returns-clause-kind : goal.returns-clause-kind
returns-clause-kind g c =
    let before = c.args.self.now in
    let after = c.turn-receipt.new.self in
    of_kind g.T.Logged g.T.SharedDesk.command_of g.met.T.SharedDesk.replies before.seat before.kept c.args.command c.turn-receipt.result after.seat after.kept c.turn-receipt.ensures.turn
