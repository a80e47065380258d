use Rattle.soc_session.proofs.IntakeLemmas.{Awaits-malformed}
use Rattle.soc_session.proofs.routes.submit.intake.Goals as goal

pub returns-in-Err-Malformed : goal.returns-in-Err-Malformed
returns-in-Err-Malformed c =
    Awaits-malformed c.args.head.now c.in-Err-Malformed.reason c.refuse.result c.passing.result (rw c.in-Err-Malformed.field-0-is at c.in-Err-Malformed.ensures.refused) c.refuse.ensures c.passing.ensures
