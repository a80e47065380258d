use Rattle.std.specs.Prelude.{codes}
use Rattle.std.proofs.Common.{◌∙◌, ap, ◌++◌}
use Rattle.soc_pages.specs.Escape.{escaped}
use Rattle.soc_pages.proofs.FlatMaps.{then}
use Rattle.soc_pages.proofs.tops.put_top.Goals as goal

pub returns : goal.returns
returns c =
    then _ (codes "<tr><td>") _ _ _ c.in_ok-put.ensures
    (then _ _ _ _ _ c.in_ok-put_number.ensures
    (then _ (codes "</td><td>") _ _ _ c.in_ok-put-2.ensures
    (then _ (escaped c.args.top.now.signature) _ _ _ (c.in_ok-put_text.ensures ∙ ap (λ l. c.put-2.new.out.items ++ escaped l) c.as_str.ensures)
    (then _ (codes "</td><td>") _ _ _ c.in_ok-put-3.ensures
    (then _ _ _ _ _ c.in_ok-put_number-2.ensures
    (then _ (codes "</td><td>") _ _ _ c.in_ok-put-4.ensures
    (then _ _ _ _ _ c.in_ok-put_number-3.ensures c.in_ok-put-5.ensures)))))))
