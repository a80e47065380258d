use Rattle.std.proofs.Common.{◌∙◌, ap, sym, map, refl, false, List, Bool}
use denote.Ref.{Bor}
use Rattle.std.specs.Prelude.{◌&&◌, not}
use Rattle.std.specs.Option.{option_map_or}
use Rattle.soc_schema.specs.declared.value.Cell.{Cell}
use Rattle.soc_schema.specs.Rows.{value_of}
use Rattle.soc_query.specs.declared.condition.Condition.{Condition}
use Rattle.soc_search.specs.inner.Places.{has}
use Rattle.soc_search.specs.inner.Selections.{Selects, are_met, selected, stands_out}
use Rattle.soc_search.proofs.FieldLemmas.{met_absent, met_present}
use Rattle.soc_search.proofs.SelectionLemmas.{ok_map, selects_meet, selects_same}
use Rattle.soc_search.proofs.selection.met_set.Goals as goal

pub returns-then-absent : goal.returns-then-absent
returns-then-absent c = λ test selects.
    let f = c.args.field in
    let rows = c.args.store.now in
    let asked = map (λ (d : Bor Condition). d.now) c.args.asked.now in
    let wrong : List Cell → Bool = λ row. option_map_or (stands_out asked) (value_of row f) false in
    ok_map c.without.result (λ left. Selects (has left) (λ row. test row && not (wrong row)) rows) (λ left. Selects (has left) (λ row. test row && are_met asked (value_of row f)) rows)
    (λ left. selects_same (has left) (has left) (λ row. test row && not (wrong row)) (λ row. test row && are_met asked (value_of row f)) rows (λ p. refl) (λ row. ap (λ b. test row && b) (met_absent asked (value_of row f) (sym c.are_met-absent.ensures ∙ c.if-absent.true))))
    (c.without.ensures test selects wrong c.in_ok-chosen.ensures)

pub returns-else-absent : goal.returns-else-absent
returns-else-absent c = λ test selects.
    let f = c.args.field in
    let asked = map (λ (d : Bor Condition). d.now) c.args.asked.now in
    selects_meet (selected c.args.set) (has c.in_ok-chosen.chosen) (has c.within.result) test (λ row. option_map_or (stands_out asked) (value_of row f) false) (λ row. test row && are_met asked (value_of row f)) c.args.store.now selects c.in_ok-chosen.ensures c.within.ensures
    (λ row. ap (λ b. test row && b) (met_present asked (value_of row f) (sym c.are_met-absent.ensures ∙ c.if-absent.false)))
