use Rattle.std.proofs.Common.{◌∙◌, ap, arith, length, ◌≤◌, ◌%◌}
use Rattle.soc_schema.specs.declared.value.Value.TheVariants.{Text}
use Rattle.soc_schema.specs.Fields.{product_field}
use Rattle.soc_store.specs.Stored.{places_of}
use Rattle.soc_search.specs.inner.Places.{has}
use Rattle.soc_search.proofs.BitLemmas.{none_there}
use Rattle.soc_search.proofs.SelectionLemmas.{here_at, joined_all, joined_names, joins_more}
use Rattle.soc_search.proofs.selection.shown_places.Goals as goal

pub loop-i-init : goal.loop-i-init
loop-i-init c = λ p. ap (λ s. has s p) c.new-set.ensures ∙ none_there (p % 65536)

pub loop-i-preserved : goal.loop-i-preserved
loop-i-preserved c =
    let names = c.args.names.now in
    let here = here_at names c.loop-i.i c.at.result.now c.at.ensures in
    joins_more (has c.loop-i.set) (has c.add_all.new.self) (λ n. places_of product_field (Text n) c.args.store.now) names c.loop-i.i c.at.result.now c.places.result.now here.0 here.1
    (c.places.ensures ∙ ap (λ v. places_of product_field v c.args.store.now) c.in_ok-product.ensures) c.in_ok-add_all.ensures c.loop-i.invariant

pub returns : goal.returns
returns c =
    let names = c.args.names.now in
    let all : length names ≤ c.loop-i.i = omega arith in
    joined_names (has c.loop-i.set) names c.args.store.now c.places_rise.ensures.rise (joined_all (has c.loop-i.set) (λ n. places_of product_field (Text n) c.args.store.now) names c.loop-i.i all c.loop-i.invariant)
