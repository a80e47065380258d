use Rattle.soc_raw.proofs.Records.{same_content}
use Rattle.soc_raw.proofs.raw_crash.one_content.Goals as goal

pub returns : goal.returns
returns c = same_content
