use Rattle.soc_multipart.proofs.BadHeadLemmas.{too_long}
use Rattle.soc_multipart.proofs.PartLemmas.{ends_open}
use Rattle.soc_multipart.proofs.sections.is_too_long.Goals as goal

pub returns-in-Open : goal.returns-in-Open
returns-in-Open c = λ is.
    too_long c.args.bytes.now (ends_open _ _ _ _ c.in-Open.is c.in_ok-end.ensures).1 c.requires
