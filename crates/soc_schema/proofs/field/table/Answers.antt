-- The table in the code and the one of the definitions have the same columns.
use Rattle.std.proofs.Common.{refl}
use Rattle.soc_schema.specs.Fields.{field_table}
use Rattle.soc_schema.proofs.field.table.Goals as goal

pub returns-clause-names : goal.returns-clause-names
unfolding field_table
returns-clause-names c = refl

pub returns-clause-kinds : goal.returns-clause-kinds
unfolding field_table
returns-clause-kinds c = refl

pub returns-clause-permissions : goal.returns-clause-permissions
unfolding field_table
returns-clause-permissions c = refl

pub returns-clause-sources : goal.returns-clause-sources
unfolding field_table
returns-clause-sources c = refl
