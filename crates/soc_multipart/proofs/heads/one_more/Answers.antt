use Rattle.std.proofs.Common.{subst}
use Rattle.soc_multipart.specs.inner.Views.{HasValues}
use Rattle.soc_multipart.proofs.HeadLemmas.{once_more, often_more}
use Rattle.soc_multipart.proofs.heads.one_more.Goals as goal

pub returns-in-Once : goal.returns-in-Once
returns-in-Once c = λ values h.
    once_more values c.args.found c.in-Once.field-0.now _ (λ k. subst (λ x. HasValues values x) c.in-Once.is k) h

pub returns-in-Often : goal.returns-in-Often
returns-in-Often c = λ values h. often_more values _ (subst (λ x. HasValues values x) c.in-Often.is h)
