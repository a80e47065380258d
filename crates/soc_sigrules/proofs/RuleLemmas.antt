-- The rule on memory, by what its size is.
use Rattle.std.proofs.Common.{◌≡◌, ℕ, ◌<◌, ◌≤◌, Bool, true, false, ◌&&◌, cond, List, [], ◌∷◌, ◌++◌, length, refl, sym, ap, ◌∙◌, arith, true≢false}
use Rattle.std.specs.Prelude.{codes, nat_le, nat_lt}
use Rattle.std.specs.List.{list_all}
use Rattle.std.specs.Char.{is_ascii_digit, digit_value}
use Rattle.std.specs.Str.Parse.{AllDigits, digits_value}
use Rattle.std.proofs.lemmas.Bool.Decides.{nat_tests}
use Rattle.soc_base.proofs.Folk.{and_parts, from_lt, from_le}
use Rattle.soc_text.specs.Digits.{IsNumber}
use Rattle.soc_sigrules.specs.Rules.{is_size, memory_text}

digit_test : (c : ℕ) → digit_value c < 10 → is_ascii_digit c ≡ true
digit_test c below = grind (arith, nat_tests)

test_digit : (c : ℕ) → is_ascii_digit c ≡ true → digit_value c < 10
test_digit c test = grind (arith, nat_tests)

and_true : (a b : Bool) → a ≡ true → b ≡ true → (a && b) ≡ true
and_true a b e f = ap (λ x. x && b) e ∙ f

digits_pass : (ds : List ℕ) → AllDigits 10 ds → list_all is_ascii_digit ds ≡ true
digits_pass [] all = refl
digits_pass (d ∷ ds) all = and_true _ _ (digit_test d all.0) (digits_pass ds all.1)

digits_from : (ds : List ℕ) → list_all is_ascii_digit ds ≡ true → AllDigits 10 ds
digits_from [] pass = tt
digits_from (d ∷ ds) pass = let both = and_parts _ _ pass in (test_digit d both.0, digits_from ds both.1)

size_true : (size : List ℕ) → IsNumber 18 size → is_size size ≡ true
size_true size is =
    let some : nat_lt 0 (length size) ≡ true = let h = is.1.0 in grind (arith, nat_tests) in
    let few : nat_le (length size) 18 ≡ true = let h = is.0 in grind (arith, nat_tests) in
    and_true _ _ some (and_true _ _ few (digits_pass size is.1.1))

number_from : (size : List ℕ) → is_size size ≡ true → IsNumber 18 size
number_from size test =
    let some = and_parts (nat_lt 0 (length size)) (nat_le (length size) 18 && list_all is_ascii_digit size) test in
    let few = and_parts (nat_le (length size) 18) (list_all is_ascii_digit size) some.1 in
    (from_le (length size) 18 few.0, (from_lt 0 (length size) some.0, digits_from size few.1))

size_false : (size : List ℕ) → ¬ (IsNumber 18 size) → is_size size ≡ false
size_false size none = elim (is_size size) as (λ b. is_size size ≡ b → is_size size ≡ false)
    [ true ↦ λ e. absurd (none (number_from size e)) | false ↦ λ e. e ] refl

abbrev sized : Bool → Bool → List ℕ → List ℕ
sized is_number small text = cond is_number (cond small (codes "OOM | small") (codes "OOM | large | " ++ text)) (codes "OOM | unknown | " ++ text)

by_size : (size text : List ℕ) (is_number small : Bool) → is_size size ≡ is_number → nat_le (digits_value 10 size) 262144 ≡ small → memory_text size text ≡ sized is_number small text
by_size size text is_number small is below =
    ap (λ b. sized b (nat_le (digits_value 10 size) 262144) text) is ∙ ap (λ b. sized is_number b text) below

pub memory_small : (size text : List ℕ) (value : ℕ) → IsNumber 18 size × (value ≡ digits_value 10 size) → value ≤ 262144 → codes "OOM | small" ≡ memory_text size text
memory_small size text value is small =
    let below : nat_le value 262144 ≡ true = grind (arith, nat_tests) in
    sym (by_size size text true true (size_true size is.0) (ap (λ v. nat_le v 262144) (sym is.1) ∙ below))

pub memory_large : (size text : List ℕ) (value : ℕ) → IsNumber 18 size × (value ≡ digits_value 10 size) → 262144 < value → codes "OOM | large | " ++ text ≡ memory_text size text
memory_large size text value is large =
    let above : nat_le value 262144 ≡ false = grind (arith, nat_tests) in
    sym (by_size size text true false (size_true size is.0) (ap (λ v. nat_le v 262144) (sym is.1) ∙ above))

pub memory_unknown : (size text : List ℕ) → ¬ (IsNumber 18 size) → codes "OOM | unknown | " ++ text ≡ memory_text size text
memory_unknown size text none = sym (by_size size text false _ (size_false size none) refl)
