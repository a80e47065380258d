use Rattle.std.proofs.Common.{◌≡◌, ◌∙◌, IfOk, ap, map, subst}
use Rattle.soc_schema.specs.Rows.{value_of}
use Rattle.soc_schema.specs.Values.{is_value}
use Rattle.soc_store.specs.Stored.{PlacesRise, product_at, tally}
use Rattle.soc_store.proofs.StoreLemmas.{products_there}
use Rattle.soc_store.proofs.store.Store.counts.Goals as goal

pub returns : goal.returns
returns c =
    let now = c.args.self.now in
    let found = c.places.result.now in
    subst (λ l. IfOk c.counts_at.result (λ counts. counts.items ≡ l))
    (ap (λ rows. tally (map (product_at rows) found)) c.self.view_is ∙ ap (λ ps. tally (map (product_at now) ps)) c.places.ensures
    ∙ ap tally (products_there now (λ s. is_value c.args.value.now (value_of s.1 c.args.field)) (subst PlacesRise c.self.view_is c.self.invariant.0)))
    c.counts_at.ensures
