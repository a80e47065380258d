use Rattle.soc_schema.proofs.FieldLemmas.{field_named-name_of}
use Rattle.soc_schema.proofs.field.Field.name.Goals as goal

pub returns-clause-own : goal.returns-clause-own
returns-clause-own c = rw c.entry.ensures.name (field_named-name_of c.args.self.now c.entry.ensures.in_table)
