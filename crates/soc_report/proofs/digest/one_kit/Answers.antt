use Rattle.soc_report.proofs.DigestLemmas.{one_kit}
use Rattle.soc_report.proofs.digest.one_kit.Goals as goal

pub returns : goal.returns
returns c = one_kit
