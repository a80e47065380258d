use Rattle.soc_cfi.proofs.NameLemmas.{named_given}
use Rattle.soc_cfi.proofs.texts.named_by.Goals as goal

pub returns : goal.returns
returns c = named_given c.args.part.now c.strip_suffix.result c.strip_suffix.ensures.cases
