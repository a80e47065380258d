use Rattle.std.proofs.Common.{refl}
use Rattle.soc_schema.specs.Fields.{field_table}
use Rattle.soc_report.specs.Report.{sources}
use Rattle.soc_report.proofs.source.sources_are_of_fields.Goals as goal

pub returns : goal.returns
unfolding sources field_table
returns c = record { names = refl; annotations = refl }
