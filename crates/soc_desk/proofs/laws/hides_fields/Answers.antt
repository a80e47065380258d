use Rattle.soc_desk.proofs.Fields.{hides_fields}
use Rattle.soc_desk.proofs.laws.hides_fields.Goals as goal

pub returns : goal.returns
returns c = hides_fields
