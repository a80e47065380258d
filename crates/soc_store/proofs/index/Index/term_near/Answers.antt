use Rattle.std.proofs.Common.{◌∙◌, ap, sym, subst}
use Rattle.std.specs.Prelude.{slice_get}
use Rattle.soc_schema.specs.Orders.{value_cmp}
use Rattle.soc_schema.specs.Tables.{Rising}
use Rattle.soc_store.specs.inner.Parts.{postings_in}
use Rattle.soc_store.proofs.IndexLemmas.{found_there, value}
use Rattle.soc_store.proofs.index.Index.term_near.Goals as goal

pub returns-clause-found : goal.returns-clause-found
returns-clause-found c =
    found_there c.term_near.result.now c.args.self.now c.args.i (subst (Rising value value_cmp) c.self.view_is c.self.invariant.rising) c.requires
    (ap (λ ts. slice_get ts c.args.i) (sym c.self.view_is ∙ ap postings_in (sym c.deref.ensures.value)) ∙ c.term_near.ensures)
