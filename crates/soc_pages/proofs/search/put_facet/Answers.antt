use Rattle.std.proofs.Common.{◌∙◌, ap, ◌++◌}
use Rattle.std.specs.Prelude.{codes}
use Rattle.std.specs.List.{flat_map}
use Rattle.soc_pages.specs.Pages.{term_item}
use Rattle.soc_pages.proofs.FlatMaps.{then}
use Rattle.soc_pages.proofs.search.put_facet.Goals as goal

pub returns : goal.returns
returns c =
    then _ (codes "<h2>") _ _ _ c.in_ok-put.ensures
    (then _ _ _ _ _ c.in_ok-put_name.ensures
    (then _ (codes "</h2>\n<ul>\n") _ _ _ c.in_ok-put-2.ensures
    (then _ _ _ _ _ (c.in_ok-put_terms.ensures ∙ ap (λ l. c.put-2.new.out.items ++ flat_map term_item l) c.as_slice.ensures) c.in_ok-put-3.ensures)))
