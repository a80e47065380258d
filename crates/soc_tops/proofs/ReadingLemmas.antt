-- Numbers of digits, pairs that are read one after another, and refusals that are handed on.
use Rattle.std.proofs.Common.{◌≡◌, ℕ, zero, suc, ◌+◌, ◌≤◌, Bool, true, false, List, [], ◌∷◌, length, drop, Option, None, Some, slice_get, Result, Ok, MatchOption, refl, sym, ap, ◌∙◌, arith, subst, add-one, if◌then◌else◌, ◌&&◌, nat_le}
use Rattle.std.proofs.lemmas.Bool.{ltb-true, lt-ltb, leb-true, le-leb, and_parts, and_from}
use Rattle.std.specs.List.{list_all}
use Rattle.std.specs.Char.{is_digit}
use Rattle.std.specs.Str.Parse.{digits_value, AllDigits}
use Rattle.soc_text.specs.Digits.{IsNumber}
use Rattle.soc_tops.specs.declared.error.TopsError.{TopsError}
use Rattle.soc_tops.specs.declared.error.TopsError.TheVariants.{BadParameter, NoMemory}
use Rattle.soc_tops.specs.declared.given.Given.{Given}
use Rattle.soc_tops.specs.Asked.{◌>>=◌, number_of, with_pair, with_pairs, IsRefusal}

all_digits : (text : List ℕ) → list_all (λ c. is_digit c 10) text ≡ true → AllDigits 10 text
all_digits [] h = tt
all_digits (c ∷ cs) h =
    let parts : (is_digit c 10 ≡ true) × (list_all (λ d. is_digit d 10) cs ≡ true) = and_parts _ _ h in
    (ltb-true _ _ parts.0, all_digits cs parts.1)

digits_all : (text : List ℕ) → AllDigits 10 text → list_all (λ c. is_digit c 10) text ≡ true
digits_all [] h = refl
digits_all (c ∷ cs) h = and_from _ _ (lt-ltb _ _ h.0) (digits_all cs h.1)

decides : (t : Bool) (n : ℕ) (P : Type 0) (r : Option ℕ) → (t ≡ true → P) → (P → t ≡ true) → MatchOption r (P → ⊥) (λ m. P × (m ≡ n)) → r ≡ (if t then Some n else None)
decides true n P None to from h = absurd (h (to refl))
decides true n P (Some m) to from h = ap Some h.1
decides false n P None to from h = refl
decides false n P (Some m) to from h = let both : false ≡ true = from h.0 in cc

pub number_is : (least most : ℕ) (text : List ℕ) (r : Option ℕ) → 1 ≤ least → least ≤ length text → MatchOption r (¬ (IsNumber most text)) (λ n. IsNumber most text × (n ≡ digits_value 10 text)) → r ≡ number_of least most text
number_is least most text r some enough h =
    decides ((nat_le least (length text) && nat_le (length text) most) && list_all (λ c. is_digit c 10) text) (digits_value 10 text) (IsNumber most text) r
    (λ e.
    let outer : (nat_le least (length text) && nat_le (length text) most ≡ true) × (list_all (λ c. is_digit c 10) text ≡ true) = and_parts _ _ e in
    let inner : (nat_le least (length text) ≡ true) × (nat_le (length text) most ≡ true) = and_parts _ _ outer.0 in
    (leb-true _ _ inner.1, (omega arith, all_digits text outer.1)))
    (λ n. and_from _ _ (and_from _ _ (le-leb _ _ enough) (le-leb _ _ n.0)) (digits_all text n.1.1))
    h

-- what a first step refuses, both refuse
pub refused_first : {A B : Type 0} (r : Result A TopsError) (f : A → Result B TopsError) (e : TopsError) → IsRefusal r e → IsRefusal (r >>= f) e
refused_first r f (BadParameter n) h = ap (λ s. s >>= f) h
refused_first r f NoMemory h = tt

-- what the second step refuses behind a first one that is done, both refuse
pub refused_second : {A B : Type 0} (r : Result A TopsError) (a : A) (f : A → Result B TopsError) (e : TopsError) → r ≡ Ok a → IsRefusal (f a) e → IsRefusal (r >>= f) e
refused_second r a f (BadParameter n) done h = ap (λ s. s >>= f) done ∙ h
refused_second r a f NoMemory done h = tt

drop_suc : {A : Type 0} (xs : List A) (i : ℕ) (x : A) → slice_get xs i ≡ Some x → drop i xs ≡ x ∷ drop (suc i) xs
drop_suc [] i x h = cc
drop_suc (y ∷ ys) zero x h = let same : y ≡ x = cc in ap (λ z. z ∷ ys) same
drop_suc (y ∷ ys) (suc i) x h = drop_suc ys i x h

drop_at : {A : Type 0} (xs : List A) (i : ℕ) (x : A) → slice_get xs i ≡ Some x → drop i xs ≡ x ∷ drop (i + 1) xs
drop_at xs i x h = rw add-one (drop_suc xs i x h)

-- the pairs that are left behind one that was read
pub pair_read : (g more : Given) (all : Result Given TopsError) (pairs : List (List ℕ × List ℕ)) (i : ℕ) (name value : List ℕ) → slice_get pairs i ≡ Some (name, value) → with_pair g name value ≡ Ok more → with_pairs g (drop i pairs) ≡ all → with_pairs more (drop (i + 1) pairs) ≡ all
pair_read g more all pairs i name value here read left =
    sym (ap (with_pairs g) (drop_at pairs i (name, value) here) ∙ ap (λ r. r >>= (λ m. with_pairs m (drop (i + 1) pairs))) read) ∙ left

-- what is refused of a pair is refused of all
pub pair_refused : (g : Given) (all : Result Given TopsError) (pairs : List (List ℕ × List ℕ)) (i : ℕ) (name value : List ℕ) (e : TopsError) → slice_get pairs i ≡ Some (name, value) → IsRefusal (with_pair g name value) e → with_pairs g (drop i pairs) ≡ all → IsRefusal all e
pair_refused g all pairs i name value e here refused left =
    let same : with_pair g name value >>= (λ m. with_pairs m (drop (i + 1) pairs)) ≡ all = sym (ap (with_pairs g) (drop_at pairs i (name, value) here)) ∙ left in
    subst (λ r. IsRefusal r e) same (refused_first (with_pair g name value) (λ m. with_pairs m (drop (i + 1) pairs)) e refused)
