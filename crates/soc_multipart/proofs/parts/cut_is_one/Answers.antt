use Rattle.soc_multipart.proofs.CutLemmas.{cut_once}
use Rattle.soc_multipart.proofs.parts.cut_is_one.Goals as goal

pub returns : goal.returns
returns c = cut_once
