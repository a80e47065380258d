use Rattle.soc_search.proofs.BitLemmas.{bit_set}
use Rattle.soc_search.proofs.places.with_bit.Goals as goal

pub returns : goal.returns
returns c = λ j lt. bit_set c.args.word c.args.k j c.requires
