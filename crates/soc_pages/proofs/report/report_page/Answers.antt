use Rattle.std.proofs.Common.{◌∙◌}
use Rattle.std.specs.Prelude.{codes}
use Rattle.soc_pages.proofs.FlatMaps.{then, whole}
use Rattle.soc_pages.proofs.report.report_page.Goals as goal

pub returns : goal.returns
returns c = c.from.ensures ∙
    whole _ _ _ c.new-out.ensures.items
    (then _ (codes "<!DOCTYPE html>\n<title>") _ _ _ c.in_ok-put.ensures
    (then _ _ _ _ _ c.in_ok-put_id.ensures
    (then _ (codes "</title>\n<table>\n") _ _ _ c.in_ok-put-2.ensures
    (then _ _ _ _ _ c.in_ok-put_fields.ensures c.in_ok-put-3.ensures))))
