use Rattle.soc_search.proofs.AnswersSeen.{in_any_order}
use Rattle.soc_search.proofs.seen.answers_in_any_order.Goals as goal

pub returns : goal.returns
returns c = in_any_order c.args.query.now
