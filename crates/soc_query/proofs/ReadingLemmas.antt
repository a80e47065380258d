-- Fronts taken off a text, numbers of digits, and refusals that are handed on.
use Rattle.std.proofs.Common.{◌≡◌, ◌≢◌, ℕ, ◌<◌, ◌≤◌, Bool, true, false, List, [], ◌∷◌, ◌++◌, length, drop, Option, None, Some, Result, Ok, MatchOption, refl, sym, ap, ◌∙◌, arith, if◌then◌else◌, ◌&&◌, nat_eq, nat_lt}
use Rattle.std.proofs.lemmas.Bool.{eqb-true, ltb-true, lt-ltb, eq-eqb, and_parts, and_from}
use denote.Ref.{Bor}
use Rattle.std.specs.Option.{option_copied}
use Rattle.std.specs.Str.Pattern.{FindsTextPrefix, StripsPrefix}
use Rattle.std.specs.List.{list_all}
use Rattle.std.specs.Char.{is_digit}
use Rattle.std.specs.Str.Parse.{digits_value, AllDigits}
use Rattle.soc_text.specs.Digits.{IsNumber}
use Rattle.soc_query.specs.declared.error.QueryError.{QueryError}
use Rattle.soc_query.specs.declared.error.QueryError.TheVariants.{UnknownField, NotGranted, BadValue, BadNumber, TooManyConditions, NoMemory}
use Rattle.soc_query.specs.Queries.{stripped, number_of, and_then, IsRefusal}

pub stripped-append : (front rest : List ℕ) → stripped front (front ++ rest) ≡ Some rest
stripped-append [] rest = refl
stripped-append (b ∷ front) rest = rw (eq-eqb b b refl) (stripped-append front rest)

none_if : {A : Type 0} (t : Bool) (o : Option A) → (t ≡ true → o ≡ None) → (if t then o else None) ≡ None
none_if true o h = h refl
none_if false o h = refl

pub stripped-none : (front text : List ℕ) → ((rest : List ℕ) → text ≢ front ++ rest) → stripped front text ≡ None
stripped-none [] text h = absurd (h text refl)
stripped-none (b ∷ front) [] h = refl
stripped-none (b ∷ front) (c ∷ text) h =
    none_if (nat_eq b c) (stripped front text) (λ e. stripped-none front text (λ rest same. h rest (let head : b ≡ c = eqb-true b c e in cc)))

all_digits : (text : List ℕ) → list_all (λ c. is_digit c 10) text ≡ true → AllDigits 10 text
all_digits [] h = tt
all_digits (c ∷ cs) h =
    let parts : (is_digit c 10 ≡ true) × (list_all (λ d. is_digit d 10) cs ≡ true) = and_parts _ _ h in
    (ltb-true _ _ parts.0, all_digits cs parts.1)

digits_all : (text : List ℕ) → AllDigits 10 text → list_all (λ c. is_digit c 10) text ≡ true
digits_all [] h = refl
digits_all (c ∷ cs) h = and_from _ _ (lt-ltb _ _ h.0) (digits_all cs h.1)

decides : (t : Bool) (n : ℕ) (P : Type 0) (r : Option ℕ) → (t ≡ true → P) → (P → t ≡ true) → MatchOption r (P → ⊥) (λ m. P × (m ≡ n)) → r ≡ (if t then Some n else None)
decides true n P None to from h = absurd (h (to refl))
decides true n P (Some m) to from h = ap Some h.1
decides false n P None to from h = refl
decides false n P (Some m) to from h = let both : false ≡ true = from h.0 in cc

pub number_is : (text : List ℕ) (r : Option ℕ) → MatchOption r (¬ (IsNumber 18 text)) (λ n. IsNumber 18 text × (n ≡ digits_value 10 text)) → r ≡ number_of text
number_is text r h =
    decides (nat_lt 0 (length text) && nat_lt (length text) 19 && list_all (λ c. is_digit c 10) text) (digits_value 10 text) (IsNumber 18 text) r
    (λ e.
    let outer : (nat_lt 0 (length text) && nat_lt (length text) 19 ≡ true) × (list_all (λ c. is_digit c 10) text ≡ true) = and_parts _ _ e in
    let inner : (nat_lt 0 (length text) ≡ true) × (nat_lt (length text) 19 ≡ true) = and_parts _ _ outer.0 in
    let some : 0 < length text = ltb-true _ _ inner.0 in
    let few : length text < 19 = ltb-true _ _ inner.1 in
    (omega arith, (some, all_digits text outer.1)))
    (λ n. and_from _ _ (and_from _ _ (lt-ltb _ _ n.1.0) (lt-ltb _ _ (let few : length text ≤ 18 = n.0 in omega arith))) (digits_all text n.1.1))
    h

-- what a first step refuses, both refuse
pub refused_first : {A B : Type 0} (r : Result A QueryError) (f : A → Result B QueryError) (e : QueryError) → IsRefusal r e → IsRefusal (and_then r f) e
refused_first r f (UnknownField n) h = ap (λ s. and_then s f) h
refused_first r f (NotGranted n p) h = ap (λ s. and_then s f) h
refused_first r f (BadValue n) h = ap (λ s. and_then s f) h
refused_first r f (BadNumber n) h = ap (λ s. and_then s f) h
refused_first r f TooManyConditions h = ap (λ s. and_then s f) h
refused_first r f NoMemory h = tt

-- what the second step refuses behind a first one that is done, both refuse
pub refused_second : {A B : Type 0} (r : Result A QueryError) (a : A) (f : A → Result B QueryError) (e : QueryError) → r ≡ Ok a → IsRefusal (f a) e → IsRefusal (and_then r f) e
refused_second r a f (UnknownField n) done h = ap (λ s. and_then s f) done ∙ h
refused_second r a f (NotGranted n p) done h = ap (λ s. and_then s f) done ∙ h
refused_second r a f (BadValue n) done h = ap (λ s. and_then s f) done ∙ h
refused_second r a f (BadNumber n) done h = ap (λ s. and_then s f) done ∙ h
refused_second r a f TooManyConditions done h = ap (λ s. and_then s f) done ∙ h
refused_second r a f NoMemory done h = tt

-- what `strip_prefix` says of texts
pub strips : (front text : List ℕ) (r : Option (Bor (List ℕ))) → MatchOption r (FindsTextPrefix front text None) (λ x. StripsPrefix (FindsTextPrefix front) text x.now) → option_copied r ≡ stripped front text
strips front text None h = sym (stripped-none front text h)
strips front text (Some x) h =
    let split : text ≡ front ++ drop h.0 text = h.1.1 in
    let rest : x.now ≡ drop h.0 text = h.2 in
    ap Some rest ∙ (sym (stripped-append front (drop h.0 text)) ∙ ap (stripped front) (sym split))
