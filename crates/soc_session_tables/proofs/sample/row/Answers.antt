use Rattle.std.proofs.Common.{refl}
use Rattle.soc_session.proofs.SampleLemmas.{product-row}
use Rattle.soc_session_tables.proofs.sample.row.Goals as goal

pub returns-in-Ok : goal.returns-in-Ok
returns-in-Ok c = (refl, product-row c.args.caller c.in-Ok.row _ c.in-Ok.ensures)
