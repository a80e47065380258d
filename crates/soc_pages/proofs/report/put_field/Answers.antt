use Rattle.std.specs.Prelude.{codes}
use Rattle.soc_pages.proofs.FlatMaps.{then}
use Rattle.soc_pages.proofs.report.put_field.Goals as goal

pub returns : goal.returns
returns c =
    then _ (codes "<tr><th>") _ _ _ c.in_ok-put.ensures
    (then _ _ _ _ _ c.in_ok-put_name.ensures
    (then _ (codes "</th><td>") _ _ _ c.in_ok-put-2.ensures
    (then _ _ _ _ _ c.in_ok-put_value.ensures c.in_ok-put-3.ensures)))
