use Rattle.std.proofs.Common.{codes}
use Rattle.soc_multipart.proofs.Basics.{match_some}
use Rattle.soc_multipart.proofs.FindLemmas.{absent_among}
use Rattle.soc_multipart.proofs.DispositionLemmas.{no_name_param}
use Rattle.soc_multipart.proofs.dispositions.disposed.Goals as goal

pub returns-in_default-find_param : goal.returns-in_default-find_param
returns-in_default-find_param c =
    no_name_param _ _ _ c.in-Some.ensures (match_some _ _ _ _ c.in_ok-found.ensures c.in-Some-2.is)
    (absent_among (codes "name") _ _ c.as_slice.ensures.value c.in_default-find_param.ensures)
