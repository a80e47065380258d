use Rattle.soc_tops.proofs.ReadingLemmas.{number_is}
use Rattle.soc_tops.proofs.day.number_of.Goals as goal

pub returns : goal.returns
returns c = number_is c.args.least c.args.most c.args.text.now c.number.result c.requires.some c.if-text-least.false c.number.ensures
