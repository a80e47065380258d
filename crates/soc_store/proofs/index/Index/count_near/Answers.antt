use Rattle.std.proofs.Common.{◌≡◌, ◌∙◌, ap, subst, length}
use Rattle.std.specs.Prelude.{slice_get}
use Rattle.std.specs.Option.{IfSome}
use Rattle.soc_schema.specs.Orders.{value_cmp}
use Rattle.soc_schema.specs.Tables.{Rising}
use Rattle.soc_store.specs.inner.Parts.{postings_in}
use Rattle.soc_store.proofs.IndexLemmas.{count_found, value}
use Rattle.soc_store.proofs.index.Index.count_near.Goals as goal

pub returns : goal.returns
returns c =
    count_found c.args.self.now c.args.i c.count_near.result (subst (Rising value value_cmp) c.self.view_is c.self.invariant.rising) c.requires
    (subst (λ ts. IfSome (slice_get ts c.args.i) (λ t. c.count_near.result ≡ length t.places)) (ap postings_in c.deref.ensures.value ∙ c.self.view_is) c.count_near.ensures)
