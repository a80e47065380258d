use Rattle.soc_multipart.proofs.Basics.{match_none}
use Rattle.soc_multipart.proofs.DispositionLemmas.{no_disposition}
use Rattle.soc_multipart.proofs.dispositions.head_of.Goals as goal

pub returns-in_default-3 : goal.returns-in_default-3
returns-in_default-3 c =
    no_disposition _ _ c.in-Once.ensures (match_none _ _ _ c.in_ok-said.ensures c.in_default-3.is)
