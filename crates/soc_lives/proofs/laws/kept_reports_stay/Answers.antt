use Rattle.soc_lives.proofs.Reports as Reports
use Rattle.soc_lives.proofs.laws.kept_reports_stay.Goals as goal

pub returns : goal.returns
returns c = Reports.kept_reports_stay
