use Rattle.soc_serve.proofs.Signatures.{asked_is}
use Rattle.soc_serve.proofs.summary.signature_query.Goals as goal

pub returns-in-Ok : goal.returns-in-Ok
returns-in-Ok c =
    asked_is _ _ _ _ _ _ c.new-pairs.ensures c.in_ok-push_pair.ensures c.in_ok-push_pair-2.ensures c.in_ok-push_pair-3.ensures c.public.ensures.value c.in-Ok.ensures.ok
