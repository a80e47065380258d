use Rattle.std.proofs.lemmas.Str.Pattern.{contains_text}
use Rattle.soc_search.proofs.TextLemmas.{part_is}
use Rattle.soc_search.proofs.condition.contains.Goals as goal

pub returns : goal.returns
returns c = part_is c.contains.result c.args.part.now c.args.text.now (contains_text c.contains.result c.args.part.now c.args.text.now c.contains.ensures.cases)
