use Rattle.soc_search.proofs.TopsSeen.{in_any_order}
use Rattle.soc_search.proofs.seen.tops_in_any_order.Goals as goal

pub returns : goal.returns
returns c = in_any_order c.args.query.now
