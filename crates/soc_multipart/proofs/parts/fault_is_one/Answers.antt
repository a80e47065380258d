use Rattle.soc_multipart.proofs.CutLemmas.{one_fault}
use Rattle.soc_multipart.proofs.parts.fault_is_one.Goals as goal

pub returns : goal.returns
returns c = one_fault
