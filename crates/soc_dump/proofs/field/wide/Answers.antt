use Rattle.soc_dump.proofs.NumberLemmas.{little_number-below}
use Rattle.soc_dump.proofs.field.wide.Goals as goal

pub returns-clause-small : goal.returns-clause-small
returns-clause-small c = little_number-below _ _ _ c.args.structure.now c.type_inv.structure c.read_uint.ensures
