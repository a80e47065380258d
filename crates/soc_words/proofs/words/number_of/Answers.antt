use Rattle.soc_words.proofs.NumberLemmas.{number_is}
use Rattle.soc_words.proofs.words.number_of.Goals as goal

pub returns : goal.returns
returns c = number_is c.args.text.now c.number.result (rw c.as_bytes.ensures.value at c.number.ensures)
