use Rattle.soc_search.proofs.TopsSeen.{by_what_is_seen}
use Rattle.soc_search.proofs.seen.tops_by_what_is_seen.Goals as goal

pub returns : goal.returns
returns c = by_what_is_seen c.args.query.now
