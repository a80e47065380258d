use Rattle.soc_http.proofs.RouteLemmas.{report_id-none}
use Rattle.soc_http.proofs.route.report_id.Goals as goal

pub returns-in_err-id : goal.returns-in_err-id
returns-in_err-id c = rw c.from_residual.ensures (report_id-none _ c.in_err-id.ensures.cases)
