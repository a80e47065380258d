use Rattle.soc_raw.proofs.Records.{same_crash}
use Rattle.soc_raw.proofs.raw_crash.one_crash.Goals as goal

pub returns : goal.returns
returns c = same_crash
