-- Numbers, flags and items in annotations.
use Rattle.std.proofs.Common.{◌≡◌, ℕ, ◌+◌, ◌<◌, ◌≤◌, Bool, true, false, cond, List, [], ◌∷◌, length, Option, Some, None, refl, sym, ap, ◌∙◌, arith, eqb}
use Rattle.std.specs.Prelude.{MatchOption, ◌&&◌, nat_lt, nat_le}
use Rattle.std.specs.Char.{digit_value, is_ascii_digit}
use Rattle.std.specs.List.{after_first, before_first, list_all, onto_first, position_or_len, slice_split}
use Rattle.std.specs.Str.Parse.{AllDigits, digits_value}
use Rattle.std.proofs.lemmas.Bool.{true≢false}
use Rattle.std.proofs.lemmas.Bool.Decides.{nat_tests}
use Rattle.std.proofs.lemmas.List.Splits.{slice_split_first}
use Rattle.soc_base.proofs.Folk.{and_parts, from_lt, from_le}
use Rattle.soc_text.specs.Digits.{IsNumber}
use Rattle.soc_report.specs.Annotations.{is_number, number_of}

digit_test : (c : ℕ) → digit_value c < 10 → is_ascii_digit c ≡ true
digit_test c below = grind (arith, nat_tests)

test_digit : (c : ℕ) → is_ascii_digit c ≡ true → digit_value c < 10
test_digit c test = grind (arith, nat_tests)

and_true : (a b : Bool) → a ≡ true → b ≡ true → (a && b) ≡ true
and_true a b e f = ap (λ x. x && b) e ∙ f

digits_pass : (ds : List ℕ) → AllDigits 10 ds → list_all is_ascii_digit ds ≡ true
digits_pass [] all = refl
digits_pass (d ∷ ds) all = and_true _ _ (digit_test d all.0) (digits_pass ds all.1)

digits_from : (ds : List ℕ) → list_all is_ascii_digit ds ≡ true → AllDigits 10 ds
digits_from [] test = tt
digits_from (d ∷ ds) test =
    let both = and_parts (is_ascii_digit d) (list_all is_ascii_digit ds) test in
    (test_digit d both.0, digits_from ds both.1)

is_true : (text : List ℕ) → IsNumber 18 text → is_number text ≡ true
is_true text is =
    let some : nat_lt 0 (length text) ≡ true = let h = is.1.0 in grind (arith, nat_tests) in
    let few : nat_le (length text) 18 ≡ true = let h = is.0 in grind (arith, nat_tests) in
    and_true _ _ some (and_true _ _ few (digits_pass text is.1.1))

from_true : (text : List ℕ) → is_number text ≡ true → IsNumber 18 text
from_true text test =
    let some = and_parts (nat_lt 0 (length text)) (nat_le (length text) 18 && list_all is_ascii_digit text) test in
    let few = and_parts (nat_le (length text) 18) (list_all is_ascii_digit text) some.1 in
    (from_le (length text) 18 few.0, (from_lt 0 (length text) some.0, digits_from text few.1))

is_false : (text : List ℕ) → ¬ (IsNumber 18 text) → is_number text ≡ false
is_false text none = elim (is_number text) as (λ b. is_number text ≡ b → is_number text ≡ false)
    [ true ↦ λ e. absurd (none (from_true text e)) | false ↦ λ e. e ] refl

-- what a reader of numbers answers
pub number_is : (text : List ℕ) (found : Option ℕ) → MatchOption found (¬ (IsNumber 18 text)) (λ n. IsNumber 18 text × (n ≡ digits_value 10 text)) → found ≡ number_of text
number_is text None none = sym (ap (λ b. cond b (Some (digits_value 10 text)) None) (is_false text none))
number_is text (Some n) is = ap Some is.1 ∙ sym (ap (λ b. cond b (Some (digits_value 10 text)) None) (is_true text is.0))

-- ---- parts between marks

abbrev pub IsMark : ℕ → ℕ → Bool
IsMark mark byte = eqb byte mark

none_before : (mark : ℕ) (bs : List ℕ) → position_or_len (IsMark mark) bs ≡ length bs → slice_split (IsMark mark) bs ≡ bs ∷ []
none_before mark [] none = refl
none_before mark (b ∷ bs) none =
    elim (eqb b mark) as (λ s. eqb b mark ≡ s → slice_split (IsMark mark) (b ∷ bs) ≡ (b ∷ bs) ∷ []) [
      | true ↦ λ is. absurd (let h : position_or_len (IsMark mark) (b ∷ bs) ≡ 0 = rw is refl in omega arith)
      | false ↦ λ is.
          let h : position_or_len (IsMark mark) (b ∷ bs) ≡ 1 + position_or_len (IsMark mark) bs = rw is (omega arith) in
          let more : position_or_len (IsMark mark) bs ≡ length bs = omega arith in
          rw is (ap (λ (ps : List (List ℕ)). onto_first b ps) (none_before mark bs more))
    ] refl

-- the parts of bytes that a mark cuts, and of those that none does
pub parts_more : (mark : ℕ) (bs front others : List ℕ) → position_or_len (IsMark mark) bs < length bs → front ≡ before_first (IsMark mark) bs → others ≡ after_first (IsMark mark) bs
    → slice_split (IsMark mark) bs ≡ front ∷ slice_split (IsMark mark) others
parts_more mark bs front others within is_front is_others = rw (is_front, is_others) (slice_split_first (IsMark mark) bs 0 within)

pub parts_none : (mark : ℕ) (bs : List ℕ) → position_or_len (IsMark mark) bs ≡ length bs → slice_split (IsMark mark) bs ≡ bs ∷ []
parts_none mark bs none = none_before mark bs none
