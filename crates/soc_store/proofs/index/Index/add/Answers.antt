use Rattle.std.proofs.Common.{◌≡◌, subst}
use Rattle.std.specs.Prelude.{OnOk, OnErr, Some}
use Rattle.soc_store.specs.inner.Parts.{postings_in}
use Rattle.soc_store.specs.inner.Postings.{with_posting}
use Rattle.soc_store.proofs.index.Index.add.Goals as goal

pub returns-clause-ok : goal.returns-clause-ok
returns-clause-ok c =
    subst (λ ts. OnOk c.add_value.result (postings_in c.add_value.new.parts.items ≡ with_posting (Some c.args.value.now) c.args.place ts)) c.self.view_is c.add_value.ensures.ok

pub returns-clause-err : goal.returns-clause-err
returns-clause-err c = subst (λ ts. OnErr c.add_value.result (postings_in c.add_value.new.parts.items ≡ ts)) c.self.view_is c.add_value.ensures.err
