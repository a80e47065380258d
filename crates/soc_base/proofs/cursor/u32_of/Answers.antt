use Rattle.std.proofs.Common.{rules}
use Rattle.std.proofs.lemmas.Nat.{le_bytes_4}
use Rattle.soc_base.proofs.cursor.u32_of.Goals as goal

pub returns-clause-text : goal.returns-clause-text
returns-clause-text c = le_bytes_4 c.args.bytes _ (search rules) (search rules) c.from_le_bytes.ensures
