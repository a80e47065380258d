use Rattle.std.proofs.Common.{◌∙◌, ap, ◌++◌}
use Rattle.std.specs.Prelude.{codes}
use Rattle.std.specs.List.{flat_map}
use Rattle.soc_pages.specs.Pages.{facet_lines, hit_row}
use Rattle.soc_pages.proofs.FlatMaps.{then, whole, of_same}
use Rattle.soc_pages.proofs.search.search_page.Goals as goal

pub returns : goal.returns
returns c = c.from.ensures ∙
    whole _ _ _ c.new-out.ensures.items
    (then _ (codes "<!DOCTYPE html>\n<title>search</title>\n<p>") _ _ _ c.in_ok-put.ensures
    (then _ _ _ _ _ c.in_ok-put_number.ensures
    (then _ (codes "</p>\n<table>\n") _ _ _ c.in_ok-put-2.ensures
    (then _ (flat_map (hit_row c.args.answer.now.columns) c.args.answer.now.hits) _ _ _ (of_same hit_row _ _ _ _ _ _ c.as_slice.ensures c.as_slice-2.ensures c.in_ok-put_hits.ensures)
    (then _ (codes "</table>\n") _ _ _ c.in_ok-put-3.ensures
    (c.in_ok-put_facets.ensures ∙ ap (λ l. c.put-3.new.out.items ++ flat_map facet_lines l) c.as_slice-3.ensures))))))
