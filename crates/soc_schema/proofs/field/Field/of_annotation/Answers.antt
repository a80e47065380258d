use Rattle.soc_schema.proofs.SourceLemmas.{told}
use Rattle.soc_schema.proofs.field.Field.of_annotation.Goals as goal

pub returns-clause-value : goal.returns-clause-value
returns-clause-value c = told c.args.name.now c.field_of.result c.field_of.ensures
