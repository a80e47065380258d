use Rattle.soc_query.proofs.ReadingLemmas.{strips}
use Rattle.soc_query.proofs.reading.strip.Goals as goal

pub returns : goal.returns
returns c = strips c.args.front.now c.args.text.now c.strip_prefix.result c.strip_prefix.ensures.cases
