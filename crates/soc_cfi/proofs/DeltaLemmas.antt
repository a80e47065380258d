-- The rules in force, delta by delta.
use Rattle.std.proofs.Common.{◌≡◌, ℕ, ◌+◌, ◌-◌, ◌<◌, ◌≤◌, Bool, true, false, List, [], ◌∷◌, ◌++◌, length, take, cond, refl, ap, sym, ◌∙◌, arith, rules}
use Rattle.std.proofs.lemmas.List.Sums.{fold_more}
use Rattle.std.proofs.lemmas.Option.{get_or_from_slice_get, slice_get-get_or, slice_get_within}
use Rattle.std.specs.Option.{option_or}
use Rattle.std.specs.Prelude.{Option, None, Some, IfSome, fold, slice_get, nat_le}
use Rattle.std.specs.Str.{bytes_eq}
use Rattle.soc_symfile.specs.Cfi.{Span}
use Rattle.soc_symfile.specs.Line.{LabelEntry}
use Rattle.soc_cfi.specs.Rules.{Rule, delta_rule, rule_of, rules_of, with_delta}
use Rattle.soc_cfi.proofs.FindLemmas.{or_assoc, or_none}

-- rules behind others count before them
rule_of-append : (rules more : List Rule) (register : List ℕ) → rule_of (rules ++ more) register ≡ option_or (rule_of more register) (rule_of rules register)
rule_of-append [] more register = sym (or_none (rule_of more register))
rule_of-append (rule ∷ rules) more register =
    ap (λ o. option_or o (cond (bytes_eq rule.register register) (Some rule.text) None)) (rule_of-append rules more register)
    ∙ or_assoc (rule_of more register) (rule_of rules register) (cond (bytes_eq rule.register register) (Some rule.text) None)

chosen : (b : Bool) (rules more : List Rule) (register : List ℕ) → rule_of (cond b (rules ++ more) rules) register ≡ option_or (cond b (rule_of more register) None) (rule_of rules register)
chosen true rules more register = rule_of-append rules more register
chosen false rules more register = refl

pub with_delta_rule : (offset : ℕ) (rules : List Rule) (delta : LabelEntry) (register : List ℕ) → rule_of (with_delta offset rules delta) register ≡ option_or (delta_rule offset delta register) (rule_of rules register)
with_delta_rule offset rules delta register = chosen (nat_le delta.address offset) rules (rules_of delta.text) register

-- the rules of the INIT and of the first deltas
abbrev pub rules_up_to : Span → ℕ → ℕ → List Rule
rules_up_to span offset count = fold (with_delta offset) (rules_of span.init) (take count span.deltas)

pub up_to_more : (span : Span) (offset i : ℕ) (delta : LabelEntry) → slice_get span.deltas i ≡ Some delta → rules_up_to span offset (i + 1) ≡ with_delta offset (rules_up_to span offset i) delta
up_to_more span offset i delta at =
    fold_more (with_delta offset) (rules_of span.init) span.deltas i delta (slice_get_within span.deltas i delta at)
    ∙ ap (with_delta offset (rules_up_to span offset i)) (get_or_from_slice_get span.deltas i delta delta at)

pub none_inside : {A : Type 0} (xs : List A) (i : ℕ) → slice_get xs i ≡ None → i < length xs → ⊥
none_inside [] i none inside = omega arith
none_inside (x ∷ xs) i none inside = let there = slice_get-get_or (x ∷ xs) i x inside in cc

step_cases : (span : Span) (offset count : ℕ) (register : List ℕ) (found : Option (List ℕ)) (at : Option LabelEntry) → slice_get span.deltas (count - 1) ≡ at → 0 < count → count ≤ length span.deltas → IfSome at (λ delta. found ≡ delta_rule offset delta register) → rule_of (rules_up_to span offset count) register ≡ option_or found (rule_of (rules_up_to span offset (count - 1)) register)
step_cases span offset count register found None at some inside given = absurd (none_inside span.deltas (count - 1) at (omega arith))
step_cases span offset count register found (Some delta) at some inside given =
    let back : count ≡ count - 1 + 1 = omega arith in
    ap (λ n. rule_of (rules_up_to span offset n) register) back
    ∙ ap (λ rules. rule_of rules register) (up_to_more span offset (count - 1) delta at)
    ∙ with_delta_rule offset (rules_up_to span offset (count - 1)) delta register
    ∙ ap (λ o. option_or o (rule_of (rules_up_to span offset (count - 1)) register)) (sym given)

-- the latest delta that has a rule decides
pub delta_step : (span : Span) (offset count : ℕ) (register : List ℕ) (found : Option (List ℕ)) → 0 < count → count ≤ length span.deltas → IfSome (slice_get span.deltas (count - 1)) (λ delta. found ≡ delta_rule offset delta register) → rule_of (rules_up_to span offset count) register ≡ option_or found (rule_of (rules_up_to span offset (count - 1)) register)
delta_step span offset count register found some inside given = step_cases span offset count register found (slice_get span.deltas (count - 1)) refl some inside given
