use Rattle.soc_search.proofs.AnswersSeen.{by_what_is_seen}
use Rattle.soc_search.proofs.seen.answers_by_what_is_seen.Goals as goal

pub returns : goal.returns
returns c = λ rows. by_what_is_seen c.args.query.now rows c.caller-caller.ensures.granted
