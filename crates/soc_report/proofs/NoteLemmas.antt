-- A list that is gone through, one item after another.
use Rattle.std.proofs.Common.{◌≡◌, ℕ, zero, suc, drop, ◌+◌, ◌<◌, ◌≤◌, Bool, true, false, cond, Some, None, arith, List, [], ◌∷◌, ◌++◌, map, length, take, get_or, refl, sym, ap, ◌∙◌, append_assoc, append-nil}
use Rattle.std.specs.Prelude.{nat_lt}
use Rattle.std.specs.List.{position, position_or_len}
use Rattle.std.proofs.lemmas.Bool.Decides.{nat_tests}
use Rattle.std.proofs.lemmas.List.Sums.{position_or_len_is}

-- one more item, in memory of its own
pub pushed : (so_far more left rest whole : List (List ℕ)) (item copy : List ℕ) → left ≡ item ∷ rest → copy ≡ item → more ≡ so_far ++ copy ∷ [] → so_far ++ left ≡ whole → more ++ rest ≡ whole
pushed so_far more left rest whole item copy is_left is_copy is_more is =
    ap (λ (l : List (List ℕ)). l ++ rest) (is_more ∙ ap (λ (i : List ℕ). so_far ++ i ∷ []) is_copy)
    ∙ append_assoc so_far (item ∷ []) rest ∙ ap (λ (l : List (List ℕ)). so_far ++ l) (sym is_left) ∙ is

pub all_pushed : (so_far left whole : List (List ℕ)) → left ≡ [] → so_far ++ left ≡ whole → so_far ≡ whole
all_pushed so_far left whole none is = sym (append-nil so_far) ∙ ap (λ (l : List (List ℕ)). so_far ++ l) (sym none) ∙ is

-- the first item that passes is at a place, or at none
pub first_here : {A : Type 0} (p : A → Bool) (xs : List A) (place : ℕ) (d : A) → place < length xs → p (get_or xs place d) ≡ true → ((k : ℕ) (e : A) → k < place → p (get_or xs k e) ≡ false)
    → Some place ≡ position p xs
first_here p xs place d inside passes before =
    let is : position_or_len p xs ≡ place = position_or_len_is p xs place d (omega arith) (λ k below. before k d below) (λ _. passes) in
    let test : nat_lt place (length xs) ≡ true = grind (arith, nat_tests) in
    sym (ap (λ n. cond (nat_lt n (length xs)) (Some n) None) is ∙ ap (λ b. cond b (Some place) None) test)

pub first_nowhere : {A : Type 0} (p : A → Bool) (xs : List A) (end : ℕ) (d : A) → ((k : ℕ) (e : A) → k < end → p (get_or xs k e) ≡ false) → length xs ≤ end → None ≡ position p xs
first_nowhere p xs end d none past =
    let is : position_or_len p xs ≡ length xs =
    position_or_len_is p xs (length xs) d (omega arith) (λ k below. none k d (omega arith)) (λ within. absurd (omega arith)) in
    let test : nat_lt (length xs) (length xs) ≡ false = grind (arith, nat_tests) in
    sym (ap (λ n. cond (nat_lt n (length xs)) (Some n) None) is ∙ ap (λ b. cond b (Some (length xs)) None) test)

-- ---- a list up to a place

pub map_more : {A B : Type 0} (f : A → B) (xs : List A) (i : ℕ) (d : A) → i < length xs → map f (take (i + 1) xs) ≡ map f (take i xs) ++ f (get_or xs i d) ∷ []
map_more f [] i d inside = absurd (omega arith)
map_more f (x ∷ xs) zero d inside = refl
map_more f (x ∷ xs) (suc i) d inside =
    ap (λ n. map f (take n (x ∷ xs))) (let e : suc i + 1 ≡ suc (i + 1) = omega arith in e) ∙ ap (λ l. f x ∷ l) (map_more f xs i d (omega arith))

pub map_cut : {A B : Type 0} (f : A → B) (xs : List A) (i : ℕ) (d : A) → i < length xs → map f xs ≡ map f (take i xs) ++ f (get_or xs i d) ∷ map f (drop (i + 1) xs)
map_cut f [] i d inside = absurd (omega arith)
map_cut f (x ∷ xs) zero d inside = refl
map_cut f (x ∷ xs) (suc i) d inside =
    ap (λ l. f x ∷ l) (map_cut f xs i d (omega arith))
    ∙ ap (λ n. f x ∷ (map f (take i xs) ++ f (get_or xs i d) ∷ map f (drop n (x ∷ xs)))) (let e : suc (i + 1) ≡ suc i + 1 = omega arith in e)

pub take_more : {A : Type 0} (xs : List A) (i : ℕ) (d : A) → i < length xs → take (i + 1) xs ≡ take i xs ++ get_or xs i d ∷ []
take_more [] i d inside = absurd (omega arith)
take_more (x ∷ xs) zero d inside = refl
take_more (x ∷ xs) (suc i) d inside =
    ap (λ n. take n (x ∷ xs)) (let e : suc i + 1 ≡ suc (i + 1) = omega arith in e) ∙ ap (λ l. x ∷ l) (take_more xs i d (omega arith))

pub cut : {A : Type 0} (xs : List A) (i : ℕ) (d : A) → i < length xs → xs ≡ take i xs ++ get_or xs i d ∷ drop (i + 1) xs
cut [] i d inside = absurd (omega arith)
cut (x ∷ xs) zero d inside = refl
cut (x ∷ xs) (suc i) d inside =
    ap (λ l. x ∷ l) (cut xs i d (omega arith))
    ∙ ap (λ n. x ∷ (take i xs ++ get_or xs i d ∷ drop n (x ∷ xs))) (let e : suc (i + 1) ≡ suc i + 1 = omega arith in e)
