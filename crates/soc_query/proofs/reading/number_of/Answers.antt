use Rattle.soc_query.proofs.ReadingLemmas.{number_is}
use Rattle.soc_query.proofs.reading.number_of.Goals as goal

pub returns : goal.returns
returns c = number_is c.args.text.now c.number.result (rw (← c.as_bytes.ensures.value) c.number.ensures)
