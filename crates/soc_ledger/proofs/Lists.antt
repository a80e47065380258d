-- Lists: one more element, elements that differ, filters and marks at one place.
use Rattle.std.proofs.Common.{◌≡◌, ℕ, zero, suc, ◌+◌, ◌<◌, Bool, true, false, ◌&&◌, ◌||◌, List, [], ◌∷◌, ◌++◌, length, get_or, set, map, filter, reverse, Some, None, cond, sym, ap, subst, ◌∙◌, arith, refl}
use Rattle.std.specs.Prelude.{bytes_eq, slice_get}
use Rattle.std.specs.List.{AllByRecursion, enumerate_from}
use Rattle.std.proofs.lemmas.List.{reverse-append}
use Rattle.std.proofs.lemmas.Slice.Eq.{bytes_eq-Decides}
use Rattle.soc_base.proofs.Folk.{none_is_not_some, or_no_left, or_no_right}
use Rattle.soc_ledger.specs.Events.{is_among}

pub true_is_not_false : true ≡ false → ⊥
true_is_not_false is = cc

pub reverse-more : {A : Type 0} (xs : List A) (x : A) → reverse (xs ++ x ∷ []) ≡ x ∷ reverse xs
reverse-more xs x = reverse-append xs (x ∷ [])

pub reverse-first : {A : Type 0} (x : A) (xs : List A) → reverse (x ∷ xs) ≡ reverse xs ++ x ∷ []
reverse-first x xs = reverse-append (x ∷ []) xs

pub enumerate-more : {A : Type 0} (n : ℕ) (xs : List A) (x : A) → enumerate_from n (xs ++ x ∷ []) ≡ enumerate_from n xs ++ (n + length xs, x) ∷ []
enumerate-more n [] x = ap (λ k. (k, x) ∷ []) (omega arith)
enumerate-more n (y ∷ xs) x =
    let same : n + 1 + length xs ≡ n + (length (y ∷ xs)) = omega arith in
    ap (λ t. (n, y) ∷ t) (enumerate-more (n + 1) xs x ∙ ap (λ k. enumerate_from (n + 1) xs ++ (k, x) ∷ []) same)

pub all-more : {A : Type 0} (P : A → Type 0) (xs ys : List A) → AllByRecursion P xs → AllByRecursion P ys → AllByRecursion P (xs ++ ys)
all-more P [] ys all rest = rest
all-more P (x ∷ xs) ys all rest = (all.0, all-more P xs ys all.1 rest)

pub all-weaker : {A : Type 0} (P Q : A → Type 0) → ((x : A) → P x → Q x) → (xs : List A) → AllByRecursion P xs → AllByRecursion Q xs
all-weaker P Q weaker [] all = tt
all-weaker P Q weaker (x ∷ xs) all = (weaker x all.0, all-weaker P Q weaker xs all.1)

pub slice_get-front : {A : Type 0} (xs ys : List A) (i : ℕ) (x : A) → slice_get xs i ≡ Some x → slice_get (xs ++ ys) i ≡ Some x
slice_get-front [] ys i x is = absurd (none_is_not_some is)
slice_get-front (y ∷ xs) ys zero x is = is
slice_get-front (y ∷ xs) ys (suc i) x is = slice_get-front xs ys i x is

pub slice_get-last : {A : Type 0} (xs : List A) (x : A) → slice_get (xs ++ x ∷ []) (length xs) ≡ Some x
slice_get-last [] x = refl
slice_get-last (y ∷ xs) x = slice_get-last xs x

-- ---- filters

pub filter-on : {A : Type 0} (p q : A → Bool) (xs : List A) → AllByRecursion (λ x. p x ≡ q x) xs → filter p xs ≡ filter q xs
filter-on p q [] all = refl
filter-on p q (x ∷ xs) all = ap (λ b. cond b (x ∷ filter p xs) (filter p xs)) all.0 ∙ ap (λ t. cond (q x) (x ∷ t) t) (filter-on p q xs all.1)

pub filter-filter : {A : Type 0} (p q : A → Bool) (xs : List A) → filter q (filter p xs) ≡ filter (λ x. p x && q x) xs
filter-filter p q [] = refl
filter-filter p q (x ∷ xs) =
    elim (p x) as (λ b. filter q (cond b (x ∷ filter p xs) (filter p xs)) ≡ cond (b && q x) (x ∷ filter (λ x. p x && q x) xs) (filter (λ x. p x && q x) xs)) [
      | true ↦ ap (λ t. cond (q x) (x ∷ t) t) (filter-filter p q xs)
      | false ↦ filter-filter p q xs
    ]

pub filter-map : {A B : Type 0} (f : A → B) (p : B → Bool) (xs : List A) → filter p (map f xs) ≡ map f (filter (λ x. p (f x)) xs)
filter-map f p [] = refl
filter-map f p (x ∷ xs) =
    elim (p (f x)) as (λ b. cond b (f x ∷ filter p (map f xs)) (filter p (map f xs)) ≡ map f (cond b (x ∷ filter (λ x. p (f x)) xs) (filter (λ x. p (f x)) xs))) [
      | true ↦ ap (λ t. f x ∷ t) (filter-map f p xs)
      | false ↦ filter-map f p xs
    ]

-- ---- ids that differ

pub same_text : (a b : List ℕ) → bytes_eq a b ≡ true → a ≡ b
same_text a b is = (bytes_eq-Decides a b).0 is

pub itself : (a : List ℕ) → bytes_eq a a ≡ true
itself a = (bytes_eq-Decides a a).1 refl

pub turned : (a b : List ℕ) → bytes_eq a b ≡ false → bytes_eq b a ≡ false
turned a b differ =
    elim (bytes_eq b a) as (λ t. bytes_eq b a ≡ t → t ≡ false) [
      | true ↦ λ is. absurd (let yes : bytes_eq a b ≡ true = ap (λ u. bytes_eq a u) (same_text b a is) ∙ itself a in let both : true ≡ false = sym yes ∙ differ in cc)
      | false ↦ λ _. refl
    ] refl

-- each id once
abbrev pub AreDistinct : List (List ℕ) → Type 0
AreDistinct [] = Unit {0}
AreDistinct (x ∷ xs) = (is_among xs x ≡ false) × AreDistinct xs

pub or_no : (a b : Bool) → a ≡ false → b ≡ false → (a || b) ≡ false
or_no true b left right = left
or_no false b left right = right

among-push : (xs : List (List ℕ)) (x y : List ℕ) → is_among xs y ≡ false → bytes_eq x y ≡ false → is_among (xs ++ x ∷ []) y ≡ false
among-push [] x y none differ = or_no (bytes_eq x y) false differ refl
among-push (z ∷ xs) x y none differ =
    or_no (bytes_eq z y) (is_among (xs ++ x ∷ []) y) (or_no_left (bytes_eq z y) (is_among xs y) none)
    (among-push xs x y (or_no_right (bytes_eq z y) (is_among xs y) none) differ)

pub distinct-push : (xs : List (List ℕ)) (x : List ℕ) → AreDistinct xs → is_among xs x ≡ false → AreDistinct (xs ++ x ∷ [])
distinct-push [] x distinct none = (refl, tt)
distinct-push (y ∷ xs) x distinct none = (
  among-push xs x y distinct.0 (turned y x (or_no_left (bytes_eq y x) (is_among xs x) none)),
  distinct-push xs x distinct.1 (or_no_right (bytes_eq y x) (is_among xs x) none),
)

differs_at : (xs : List (List ℕ)) (x : List ℕ) (i : ℕ) → is_among xs x ≡ false → i < length xs → bytes_eq (get_or xs i []) x ≡ false
differs_at [] x i none lt = absurd (omega arith)
differs_at (y ∷ xs) x zero none lt = or_no_left (bytes_eq y x) (is_among xs x) none
differs_at (y ∷ xs) x (suc i) none lt = differs_at xs x i (or_no_right (bytes_eq y x) (is_among xs x) none) (omega arith)

pub among_place : (xs : List (List ℕ)) (x : List ℕ) → is_among xs x ≡ true → (i : ℕ) × (i < length xs) × (get_or xs i [] ≡ x)
among_place [] x is = absurd (let both : false ≡ true = is in cc)
among_place (y ∷ xs) x is =
    elim (bytes_eq y x) as (λ b. bytes_eq y x ≡ b → (b || is_among xs x) ≡ true → (i : ℕ) × (i < length (y ∷ xs)) × (get_or (y ∷ xs) i [] ≡ x)) [
      | true ↦ λ same _. (0, omega arith, same_text y x same)
      | false ↦ λ _ later. let rest = among_place xs x later in (suc rest.0, omega (arith, rest.1), rest.2)
    ] refl is

pub place_among : (xs : List (List ℕ)) (i : ℕ) → i < length xs → is_among xs (get_or xs i []) ≡ true
place_among [] i lt = absurd (omega arith)
place_among (y ∷ xs) zero lt = ap (λ b. b || is_among xs y) (itself y)
place_among (y ∷ xs) (suc i) lt =
    elim (bytes_eq y (get_or xs i [])) as (λ b. (b || is_among xs (get_or xs i [])) ≡ true) [ true ↦ refl | false ↦ place_among xs i (omega arith) ]

module _ {A : Type 0} (f g : List ℕ → A) (id : List ℕ) (same : (q : List ℕ) → bytes_eq q id ≡ false → f q ≡ g q) where
  pub map-others : (xs : List (List ℕ)) → is_among xs id ≡ false → map f xs ≡ map g xs
  map-others [] none = refl
  map-others (x ∷ xs) none =
      ap (λ y. y ∷ map f xs) (same x (or_no_left (bytes_eq x id) (is_among xs id) none))
      ∙ ap (λ t. g x ∷ t) (map-others xs (or_no_right (bytes_eq x id) (is_among xs id) none))

  -- two functions that differ at one id alone
  pub map-one : (xs : List (List ℕ)) (i : ℕ) → AreDistinct xs → i < length xs → get_or xs i [] ≡ id → map f xs ≡ set (map g xs) i (f id)
  map-one [] i distinct lt is = absurd (omega arith)
  map-one (x ∷ xs) zero distinct lt is =
      ap (λ y. f y ∷ map f xs) is ∙ ap (λ t. f id ∷ t) (map-others xs (subst (λ u. is_among xs u ≡ false) is distinct.0))
  map-one (x ∷ xs) (suc i) distinct lt is =
      let other : bytes_eq x id ≡ false = turned id x (subst (λ u. bytes_eq u x ≡ false) is (differs_at xs x i distinct.0 (omega arith))) in
      ap (λ y. y ∷ map f xs) (same x other) ∙ ap (λ t. g x ∷ t) (map-one xs i distinct.1 (omega arith) is)
