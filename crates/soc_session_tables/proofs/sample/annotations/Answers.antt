use Rattle.std.proofs.Common.{refl}
use Rattle.soc_session.proofs.SampleLemmas.{product-annotation}
use Rattle.soc_session_tables.proofs.sample.annotations.Goals as goal

pub returns-in-Ok : goal.returns-in-Ok
returns-in-Ok c = (refl, product-annotation c.args.caller.permissions c.in-Ok.texts _ c.in-Ok.ensures)
