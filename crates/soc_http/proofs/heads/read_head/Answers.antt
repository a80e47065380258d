use Rattle.soc_http.proofs.BoundLemmas.{ReadsHeadFrom-within}
use Rattle.soc_http.proofs.HeadLemmas.{ReadsHeadAhead-from}
use Rattle.soc_http.proofs.heads.read_head.Goals as goal

pub returns-clause-reads : goal.returns-clause-reads
returns-clause-reads g c = ReadsHeadAhead-from _ _ _ _ _ c.next_head.ensures.from

pub returns-clause-within : goal.returns-clause-within
returns-clause-within g c = ReadsHeadFrom-within _ _ _ _ _ c.next_head.ensures.from
