-- Statements of everyday use that many proofs share.
use Rattle.std.proofs.Common.{◌≡◌, ℕ, zero, suc, ◌<◌, ◌≤◌, Bool, true, false, ◌&&◌, ◌||◌, List, [], ◌∷◌, ◌++◌, length, drop, get_or, Some, None, refl, arith, nat_lt}
use Rattle.std.specs.Prelude.{nat_le}
use Rattle.std.specs.List.{AllByRecursion}
use Rattle.std.specs.declared.cmp.Ordering.{Ordering}
use Rattle.std.specs.declared.cmp.Ordering.TheVariants.{Less, Equal, Greater}
use Rattle.std.specs.Ordering.{is_eq}
use Rattle.std.proofs.lemmas.Bool.Decides.{nat_tests}

-- ---- truth values

pub not_true : (b : Bool) → ¬ (b ≡ true) → b ≡ false
not_true true h = absurd (h refl)
not_true false h = refl

pub not_both : (b : Bool) → b ≡ true → b ≡ false → ⊥
not_both b e f = cc

pub and_parts : (a b : Bool) → (a && b) ≡ true → (a ≡ true) × (b ≡ true)
and_parts true b e = (refl, e)
and_parts false b e = cc

pub or_true : (b : Bool) → (b || true) ≡ true
or_true true = refl
or_true false = refl

pub or_false : (b : Bool) → (b || false) ≡ b
or_false true = refl
or_false false = refl

pub or_second : (a b : Bool) → b ≡ true → (a || b) ≡ true
or_second true b e = refl
or_second false b e = e

pub or_no_left : (a b : Bool) → (a || b) ≡ false → a ≡ false
or_no_left true b e = e
or_no_left false b e = refl

pub or_no_right : (a b : Bool) → (a || b) ≡ false → b ≡ false
or_no_right true b e = cc
or_no_right false b e = e

pub or_assoc : (a b c : Bool) → ((a || b) || c) ≡ (a || (b || c))
or_assoc true b c = refl
or_assoc false b c = refl

-- ---- numbers and orders

pub from_lt : (m n : ℕ) → nat_lt m n ≡ true → m < n
from_lt m n test = grind (arith, nat_tests)

pub from_le : (m n : ℕ) → nat_le m n ≡ true → m ≤ n
from_le m n test = grind (arith, nat_tests)

pub equal_from : (r : Ordering) → is_eq r ≡ true → r ≡ Equal
equal_from Less e = cc
equal_from Equal e = refl
equal_from Greater e = cc

-- ---- options and lists

pub some_same : {X : Type 0} (x y : X) → Some x ≡ Some y → x ≡ y
some_same x y e = cc

pub some-injective : {A : Type 0} {x y : A} → Some x ≡ Some y → x ≡ y
some-injective e = cc

pub none_is_not_some : {A : Type 0} {x : A} → None ≡ Some x → ⊥
none_is_not_some e = cc

pub none_long : {A : Type 0} (xs : List A) → length xs ≡ 0 → xs ≡ []
none_long [] e = refl
none_long (x ∷ xs) e = absurd (let never : ⊥ = omega (arith, e) in never)

pub drop_past : {A : Type 0} (xs : List A) (n : ℕ) → length xs ≤ n → drop n xs ≡ []
drop_past [] zero past = refl
drop_past [] (suc n) past = refl
drop_past (x ∷ xs) zero past = absurd (omega arith)
drop_past (x ∷ xs) (suc n) past = drop_past xs n (omega arith)

pub all_push : {X : Type 0} (P : X → Type 0) (xs : List X) (x : X) → AllByRecursion P xs → P x → AllByRecursion P (xs ++ x ∷ [])
all_push P [] x all here = (here, tt)
all_push P (y ∷ ys) x all here = (all.0, all_push P ys x all.1 here)

pub all_get : {X : Type 0} (P : X → Type 0) (xs : List X) (k : ℕ) (d : X) → AllByRecursion P xs → k < length xs → P (get_or xs k d)
all_get P [] k d all h = absurd (omega arith)
all_get P (x ∷ xs) zero d all h = all.0
all_get P (x ∷ xs) (suc k) d all h = all_get P xs k d all.1 (omega arith)
