use Rattle.soc_multipart.proofs.DispositionLemmas.{may_by_test}
use Rattle.soc_multipart.proofs.dispositions.may_be_head.Goals as goal

pub returns-in_ok-said-in-Once : goal.returns-in_ok-said-in-Once
returns-in_ok-said-in-Once c =
    may_by_test _ c.values_named.result _ c.in_ok-said-in-Once.said c.is_some.result (λ x. x.name) (λ x. x.file) c.values_named.ensures c.in_default.not-Often c.in-Once.ensures
    c.in_ok-said-in-Once.ensures c.is_some.ensures
