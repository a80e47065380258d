use Rattle.std.proofs.Common.{◌∙◌, ap, sym, Some, bytes_eq}
use Rattle.std.specs.List.{list_any}
use Rattle.std.specs.Option.{option_map}
use Rattle.soc_schema.specs.Permits.{shows}
use Rattle.soc_schema.proofs.sight.visible.Goals as goal

pub returns-in-Some-product-clause-test : goal.returns-in-Some-product-clause-test
returns-in-Some-product-clause-test c =
    c.contains.ensures.test
    ∙ ap (λ names. list_any (bytes_eq c.in-Some-product.product.now) names) c.as_list.ensures
    ∙ (ap (λ products. shows products (Some c.in-Some-product.product.now)) (sym c.in-Some.is)
    ∙ ap (λ product. shows c.args.caller.now.products (option_map (λ p. p.now) product)) (sym c.in-Some-product.is))
