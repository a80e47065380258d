use Rattle.soc_cfi.proofs.WordLemmas.{split_gives}
use Rattle.soc_cfi.proofs.words.split_part.Goals as goal

pub returns-in-Some-clause-parts : goal.returns-in-Some-clause-parts
returns-in-Some-clause-parts c = rw c.in-Some.is at (split_gives c.args.text.now c.split_once.result c.split_once.ensures.cases)

pub returns-in-None-clause-parts : goal.returns-in-None-clause-parts
returns-in-None-clause-parts c = rw c.in-None.is at (split_gives c.args.text.now c.split_once.result c.split_once.ensures.cases)
