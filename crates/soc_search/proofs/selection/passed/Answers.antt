use Rattle.std.proofs.Common.{map}
use denote.Ref.{Bor}
use Rattle.std.specs.Prelude.{◌&&◌}
use Rattle.soc_schema.specs.Rows.{value_of}
use Rattle.soc_query.specs.declared.condition.Condition.{Condition}
use Rattle.soc_search.specs.inner.Selections.{are_met}
use Rattle.std.proofs.lemmas.Bool.{and_parts}
use Rattle.soc_search.proofs.selection.passed.Goals as goal

pub returns : goal.returns
returns c = λ test selects.
    let f = c.args.field in
    let asked = map (λ (d : Bor Condition). d.now) c.args.asked.now in
    let left = c.in_ok-met_set.ensures test selects in
    (left, c.in_ok-places.ensures (λ row. test row && are_met asked (value_of row f)) left (λ row takes. (and_parts (test row) (are_met asked (value_of row f)) takes).1))
