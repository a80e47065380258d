use Rattle.std.proofs.Common.{◌≡◌, ◌∙◌, ap, sym, subst, map, true, false, cond, Bool, List}
use denote.Ref.{Bor}
use Rattle.std.specs.Prelude.{◌&&◌, not, if◌then◌else◌}
use Rattle.soc_schema.specs.declared.value.Cell.{Cell}
use Rattle.soc_schema.specs.Rows.{value_of}
use Rattle.soc_query.specs.declared.condition.Condition.{Condition}
use Rattle.soc_query.specs.Answers.{is_exact}
use Rattle.soc_search.specs.inner.Selections.{AreOnce, Finds, are_met, asked_of, is_turn}
use Rattle.soc_search.proofs.FieldLemmas.{and_all}
use Rattle.soc_search.proofs.OnceLemmas.{once_met}
use Rattle.soc_search.proofs.SelectionLemmas.{finds_same, ok_map}
use Rattle.soc_search.proofs.selection.narrowed_in_turn.Goals as goal

pub returns-then-not-is_turn : goal.returns-then-not-is_turn
returns-then-not-is_turn c = λ test finds.
    let f = c.args.field in
    let cs = c.args.conditions.now in
    let exact = c.args.exact in
    let seen : List (Bor Condition) → List Condition = map (λ (d : Bor Condition). d.now) in
    let are : AreOnce (seen c.as_slice.result.now) (asked_of f cs) = subst (λ l. AreOnce (seen l) (asked_of f cs)) (sym c.as_slice.ensures.value) c.in_ok-asked.ensures in
    let turn : is_turn exact f cs ≡ false = ap (λ b. if exact then b else not b) (sym (are.same is_exact)) ∙ sym c.is_turn.ensures ∙ c.if-not-is_turn.true in
    finds_same c.args.found test (λ row. test row && cond (is_turn exact f cs) (are_met (asked_of f cs) (value_of row f)) true) c.args.store.now (λ row. ap (λ b. test row && cond b (are_met (asked_of f cs) (value_of row f)) true) turn ∙ and_all (test row)) finds

pub returns : goal.returns
returns c = λ test finds.
    let f = c.args.field in
    let cs = c.args.conditions.now in
    let exact = c.args.exact in
    let rows = c.args.store.now in
    let seen : List (Bor Condition) → List Condition = map (λ (d : Bor Condition). d.now) in
    let are : AreOnce (seen c.as_slice.result.now) (asked_of f cs) = subst (λ l. AreOnce (seen l) (asked_of f cs)) (sym c.as_slice.ensures.value) c.in_ok-asked.ensures in
    let also : AreOnce (seen c.as_slice-2.result.now) (asked_of f cs) = subst (λ l. AreOnce (seen l) (asked_of f cs)) (sym c.as_slice-2.ensures.value) c.in_ok-asked.ensures in
    let turn : is_turn exact f cs ≡ true = ap (λ b. if exact then b else not b) (sym (are.same is_exact)) ∙ sym c.is_turn.ensures ∙ c.if-not-is_turn.false in
    let met : List Cell → Bool = λ row. test row && are_met (seen c.as_slice-2.result.now) (value_of row f) in
    let wanted : List Cell → Bool = λ row. test row && cond (is_turn exact f cs) (are_met (asked_of f cs) (value_of row f)) true in
    ok_map c.narrowed.result (λ more. Finds more met rows) (λ more. Finds more wanted rows)
    (λ more. finds_same more met wanted rows (λ row. ap (λ b. test row && cond b (are_met (asked_of f cs) (value_of row f)) true) turn ∙ ap (λ b. test row && b) (sym (once_met _ _ also (value_of row f)))))
    (c.narrowed.ensures test finds)
