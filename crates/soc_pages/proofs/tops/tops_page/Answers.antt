use Rattle.std.proofs.Common.{◌∙◌, ap, ◌++◌}
use Rattle.std.specs.Prelude.{codes}
use Rattle.std.specs.List.{flat_map}
use Rattle.soc_pages.specs.Pages.{top_row}
use Rattle.soc_pages.proofs.FlatMaps.{then, whole}
use Rattle.soc_pages.proofs.tops.tops_page.Goals as goal

pub returns : goal.returns
returns c = c.from.ensures ∙
    whole _ _ _ c.new-out.ensures.items
    (then _ (codes "<!DOCTYPE html>\n<title>top crashers</title>\n<p>") _ _ _ c.in_ok-put.ensures
    (then _ _ _ _ _ c.in_ok-put_number.ensures
    (then _ (codes "</p>\n<table>\n") _ _ _ c.in_ok-put-2.ensures
    (then _ (flat_map top_row c.args.tops.now.tops) _ _ _ (c.in_ok-put_tops.ensures ∙ ap (λ l. c.put-2.new.out.items ++ flat_map top_row l) c.as_slice.ensures)
    c.in_ok-put-3.ensures))))
