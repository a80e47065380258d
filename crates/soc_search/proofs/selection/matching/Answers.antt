use Rattle.std.proofs.Common.{◌∙◌, ap, sym, true, false, Bool, List}
use Rattle.std.specs.Prelude.{◌&&◌}
use Rattle.soc_schema.specs.declared.value.Cell.{Cell}
use Rattle.soc_schema.specs.Values.{sees}
use Rattle.soc_query.specs.Answers.{meets}
use Rattle.soc_search.specs.inner.Selections.{Finds, is_turn, meets_where}
use Rattle.soc_search.proofs.FieldLemmas.{both_meet}
use Rattle.soc_search.proofs.SelectionLemmas.{finds_same, ok_map}
use Rattle.soc_search.proofs.selection.matching.Goals as goal

pub returns : goal.returns
returns c =
    let q = c.args.query.now in
    let rows = c.args.store.now in
    let cs = c.conditions-conditions.result.now in
    let saw : List Cell → Bool = sees c.caller.result.now in
    let first : List Cell → Bool = λ row. saw row && meets_where (λ f. is_turn true f cs) cs row in
    let both : List Cell → Bool = λ row. first row && meets_where (λ f. is_turn false f cs) cs row in
    let wanted : List Cell → Bool = λ row. sees q.caller row && meets q.conditions row in
    ok_map c.narrowed_where-2.result (λ more. Finds more both rows) (λ more. Finds more wanted rows)
    (λ more. finds_same more both wanted rows (λ row. ap (λ k. sees k row && meets q.conditions row) (sym c.caller.ensures.caller) ∙ ap (λ l. saw row && meets l row) (sym c.conditions-conditions.ensures) ∙ both_meet cs row (saw row)))
    (c.narrowed_where-2.ensures first (c.in_ok-found.ensures saw c.in_ok-shown.ensures))
