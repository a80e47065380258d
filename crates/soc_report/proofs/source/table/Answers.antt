-- The table in the code and the one of the definitions have the same sources.
use Rattle.std.proofs.Common.{refl}
use Rattle.soc_report.specs.Report.{sources}
use Rattle.soc_report.proofs.source.table.Goals as goal

pub returns-clause-sources : goal.returns-clause-sources
unfolding sources
returns-clause-sources c = refl
