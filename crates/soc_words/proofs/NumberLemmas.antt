-- Numbers of 1 to 18 digits.
use Rattle.std.proofs.Common.{◌≡◌, ℕ, ◌<◌, ◌≤◌, Bool, true, false, List, [], ◌∷◌, length, Option, None, Some, MatchOption, refl, ap, arith, if◌then◌else◌, ◌&&◌, nat_lt}
use Rattle.std.proofs.lemmas.Bool.{ltb-true, lt-ltb, and_parts, and_from}
use Rattle.std.specs.List.{list_all}
use Rattle.std.specs.Char.{is_digit}
use Rattle.std.specs.Str.Parse.{digits_value, AllDigits}
use Rattle.soc_text.specs.Digits.{IsNumber}
use Rattle.soc_words.specs.Words.{number_of}

all_digits : (text : List ℕ) → list_all (λ c. is_digit c 10) text ≡ true → AllDigits 10 text
all_digits [] h = tt
all_digits (c ∷ cs) h =
    let parts : (is_digit c 10 ≡ true) × (list_all (λ d. is_digit d 10) cs ≡ true) = and_parts _ _ h in
    (ltb-true _ _ parts.0, all_digits cs parts.1)

digits_all : (text : List ℕ) → AllDigits 10 text → list_all (λ c. is_digit c 10) text ≡ true
digits_all [] h = refl
digits_all (c ∷ cs) h = and_from _ _ (lt-ltb _ _ h.0) (digits_all cs h.1)

decides : (t : Bool) (n : ℕ) (P : Type 0) (r : Option ℕ) → (t ≡ true → P) → (P → t ≡ true) → MatchOption r (P → ⊥) (λ m. P × (m ≡ n)) → r ≡ (if t then Some n else None)
decides true n P None to from h = absurd (h (to refl))
decides true n P (Some m) to from h = ap Some h.1
decides false n P None to from h = refl
decides false n P (Some m) to from h = let both : false ≡ true = from h.0 in cc

pub number_is : (text : List ℕ) (r : Option ℕ) → MatchOption r (¬ (IsNumber 18 text)) (λ n. IsNumber 18 text × (n ≡ digits_value 10 text)) → r ≡ number_of text
number_is text r h =
    decides (nat_lt 0 (length text) && nat_lt (length text) 19 && list_all (λ c. is_digit c 10) text) (digits_value 10 text) (IsNumber 18 text) r
    (λ e.
    let outer : (nat_lt 0 (length text) && nat_lt (length text) 19 ≡ true) × (list_all (λ c. is_digit c 10) text ≡ true) = and_parts _ _ e in
    let inner : (nat_lt 0 (length text) ≡ true) × (nat_lt (length text) 19 ≡ true) = and_parts _ _ outer.0 in
    let some : 0 < length text = ltb-true _ _ inner.0 in
    let few : length text < 19 = ltb-true _ _ inner.1 in
    (omega arith, (some, all_digits text outer.1)))
    (λ n. and_from _ _ (and_from _ _ (lt-ltb _ _ n.1.0) (lt-ltb _ _ (let few : length text ≤ 18 = n.0 in omega arith))) (digits_all text n.1.1))
    h
