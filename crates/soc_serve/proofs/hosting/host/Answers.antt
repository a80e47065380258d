use Rattle.soc_serve.proofs.Hosted.{hosts_of, ok_of}
use Rattle.soc_serve.proofs.hosting.host.Goals as goal

pub returns-in-Ok-clause-hosts : goal.returns-in-Ok-clause-hosts
returns-in-Ok-clause-hosts g c = hosts_of _ _ _ _ _ c.in-Ok.end (ok_of _ _ _ c.in-Ok.is c.by_files-ended.ensures.hosts)
