-- Rows in order, group after group: the rows of one value of the first field stand together, in the order of the others.
use Rattle.std.proofs.Common.{◌≡◌, Bool, true, false, cond, List, [], ◌∷◌, ◌++◌, filter, refl, sym, ap, ◌∙◌, append_assoc}
use Rattle.std.specs.Prelude.{not, ◌||◌}
use Rattle.std.proofs.lemmas.Bool.{true≢false}
use Rattle.std.specs.List.{AllByRecursion, list_any}
use Rattle.std.specs.Cmp.{IsTotalOrder}
use Rattle.std.specs.Ordering.{is_eq, is_gt, ordering_then, ordering_reverse}
use Rattle.std.specs.declared.cmp.Ordering.{Ordering}
use Rattle.std.specs.declared.cmp.Ordering.TheVariants.{Less, Equal, Greater}
use Rattle.soc_base.proofs.Folk.{equal_from}
use Rattle.soc_schema.specs.Orders.{in_order, put_in_order}
use Rattle.soc_search.proofs.SortLemmas.{order_all}

less_from : (r : Ordering) → is_gt r ≡ false → is_eq r ≡ false → r ≡ Less
less_from Less e h = refl
less_from Equal e h = cc
less_from Greater e h = cc

all_kept : {X : Type 0} (p : X → Bool) (xs : List X) → AllByRecursion (λ x. p x ≡ true) (filter p xs)
all_kept p [] = tt
all_kept p (x ∷ xs) =
    elim (p x) as (λ b. p x ≡ b → AllByRecursion (λ y. p y ≡ true) (cond b (x ∷ filter p xs) (filter p xs))) [ true ↦ λ e. (e, all_kept p xs) | false ↦ λ _. all_kept p xs ] refl

-- each of a list has both
all_both : {X : Type 0} (P Q : X → Type 0) (xs : List X) → AllByRecursion P xs → AllByRecursion Q xs → AllByRecursion (λ x. P x × Q x) xs
all_both P Q [] p q = tt
all_both P Q (x ∷ xs) p q = ((p.0, q.0), all_both P Q xs p.1 q.1)

all_map : {X : Type 0} (P Q : X → Type 0) (xs : List X) → ((x : X) → P x → Q x) → AllByRecursion P xs → AllByRecursion Q xs
all_map P Q [] f all = tt
all_map P Q (x ∷ xs) f all = (f x all.0, all_map P Q xs f all.1)

module _ {X C : Type 0} (key : X → C) (K : C → C → Ordering) (k : IsTotalOrder K) (Rest : X → X → Ordering) where
  -- first by the key
  abbrev pub Both : X → X → Ordering
  Both x y = ordering_then (K (key x) (key y)) (Rest x y)

  -- it has the key
  abbrev pub keyed : C → X → Bool
  keyed c x = is_eq (K c (key x))

  -- before what has another key
  put_before : (x : X) (ys : List X) → AllByRecursion (λ y. K (key x) (key y) ≡ Less) ys → put_in_order Both x ys ≡ x ∷ ys
  put_before x [] all = refl
  put_before x (y ∷ ys) all = ap (λ r. cond (is_gt (ordering_then r (Rest x y))) (y ∷ put_in_order Both x ys) (x ∷ y ∷ ys)) all.0

  put_among : (x : X) (group others : List X) → AllByRecursion (λ y. K (key x) (key y) ≡ Equal) group → AllByRecursion (λ y. K (key x) (key y) ≡ Less) others
      → put_in_order Both x (group ++ others) ≡ put_in_order Rest x group ++ others
  put_among x [] others tied below = put_before x others below
  put_among x (y ∷ ys) others tied below =
      ap (λ r. cond (is_gt (ordering_then r (Rest x y))) (y ∷ put_in_order Both x (ys ++ others)) (x ∷ y ∷ (ys ++ others))) tied.0
      ∙ elim (is_gt (Rest x y)) as (λ b. cond b (y ∷ put_in_order Both x (ys ++ others)) (x ∷ y ∷ (ys ++ others)) ≡ cond b (y ∷ put_in_order Rest x ys) (x ∷ y ∷ ys) ++ others) [
        | true ↦ ap (λ l. y ∷ l) (put_among x ys others tied.1 below)
        | false ↦ refl
      ]

  put_behind : (x : X) (group others : List X) → AllByRecursion (λ y. K (key x) (key y) ≡ Greater) group → put_in_order Both x (group ++ others) ≡ group ++ put_in_order Both x others
  put_behind x [] others above = refl
  put_behind x (y ∷ ys) others above =
      ap (λ r. cond (is_gt (ordering_then r (Rest x y))) (y ∷ put_in_order Both x (ys ++ others)) (x ∷ y ∷ (ys ++ others))) above.0 ∙ ap (λ l. y ∷ l) (put_behind x ys others above.1)

  -- the least key's elements go first
  module _ (c : C) where
    abbrev Least : List X → Type 0
    Least xs = AllByRecursion (λ y. is_gt (K c (key y)) ≡ false) xs

    group_of : List X → List X
    group_of xs = filter (keyed c) xs

    from_first : (x : X) → keyed c x ≡ true → (y : X) → K (key x) (key y) ≡ K c (key y)
    from_first x e y = sym (k.congr c (key x) (key y) (equal_from (K c (key x)) e))

    others_below : (xs : List X) → Least xs → AllByRecursion (λ y. K c (key y) ≡ Less) (filter (λ y. not (keyed c y)) xs)
    others_below [] least = tt
    others_below (x ∷ xs) least =
        elim (keyed c x) as (λ b. keyed c x ≡ b → AllByRecursion (λ y. K c (key y) ≡ Less) (cond (not b) (x ∷ filter (λ y. not (keyed c y)) xs) (filter (λ y. not (keyed c y)) xs))) [
          | true ↦ λ _. others_below xs least.1
          | false ↦ λ e. (less_from (K c (key x)) least.0 e, others_below xs least.1)
        ] refl

    pub least_first : (xs : List X) → AllByRecursion (λ y. is_gt (K c (key y)) ≡ false) xs → in_order Both xs ≡ in_order Rest (filter (keyed c) xs) ++ in_order Both (filter (λ x. not (keyed c x)) xs)
    least_first [] least = refl
    least_first (x ∷ xs) least =
        let A : List X = in_order Rest (filter (keyed c) xs) in
        let B : List X = in_order Both (filter (λ y. not (keyed c y)) xs) in
        let mine : AllByRecursion (λ y. keyed c y ≡ true) A = order_all Rest (λ y. keyed c y ≡ true) (filter (keyed c) xs) (all_kept (keyed c) xs) in
        let theirs : AllByRecursion (λ y. K c (key y) ≡ Less) B = order_all Both (λ y. K c (key y) ≡ Less) (filter (λ y. not (keyed c y)) xs) (others_below xs least.1) in
        ap (put_in_order Both x) (least_first xs least.1)
        ∙ elim (keyed c x) as (λ b. keyed c x ≡ b → put_in_order Both x (A ++ B) ≡ in_order Rest (cond b (x ∷ filter (keyed c) xs) (filter (keyed c) xs)) ++ in_order Both (cond (not b) (x ∷ filter (λ y. not (keyed c y)) xs) (filter (λ y. not (keyed c y)) xs))) [
          | true ↦ λ e. put_among x A B
              (all_map (λ y. keyed c y ≡ true) (λ y. K (key x) (key y) ≡ Equal) A (λ y h. from_first x e y ∙ equal_from (K c (key y)) h) mine)
              (all_map (λ y. K c (key y) ≡ Less) (λ y. K (key x) (key y) ≡ Less) B (λ y h. from_first x e y ∙ h) theirs)
          | false ↦ λ e. put_behind x A B
              (all_map (λ y. keyed c y ≡ true) (λ y. K (key x) (key y) ≡ Greater) A (λ y h. k.antisymm (key x) (key y) ∙ ap ordering_reverse (from_first y h x ∙ less_from (K c (key x)) least.0 e)) mine)
        ] refl

  -- the groups of some keys, one after another
  abbrev pub groups : List C → List X → List X
  groups [] xs = []
  groups (c ∷ cs) xs = in_order Rest (filter (keyed c) xs) ++ groups cs xs

  pub groups_append : (cs ds : List C) (xs : List X) → groups (cs ++ ds) xs ≡ groups cs xs ++ groups ds xs
  groups_append [] ds xs = refl
  groups_append (c ∷ cs) ds xs = ap (λ l. in_order Rest (filter (keyed c) xs) ++ l) (groups_append cs ds xs) ∙ sym (append_assoc (in_order Rest (filter (keyed c) xs)) (groups cs xs) (groups ds xs))

  -- keys that rise
  abbrev pub Rise : List C → Type 0
  Rise [] = Unit {0}
  Rise (c ∷ cs) = AllByRecursion (λ d. K c d ≡ Less) cs × Rise cs

  -- the element has one of the keys
  abbrev pub has_one : List C → X → Bool
  has_one cs x = list_any (λ c. keyed c x) cs

  away : (c d : C) (x : X) → K c d ≡ Less → keyed d x ≡ true → K c (key x) ≡ Less
  away c d x less e =
      let back : K d c ≡ Greater = k.antisymm d c ∙ ap ordering_reverse less in
      k.antisymm c (key x) ∙ ap ordering_reverse (sym (k.congr d (key x) c (equal_from (K d (key x)) e)) ∙ back)

  -- a key that is below others is least where each element has it or one of these
  least_of : (c : C) (cs : List C) (x : X) → AllByRecursion (λ d. K c d ≡ Less) cs → (keyed c x || has_one cs x) ≡ true → is_gt (K c (key x)) ≡ false
  least_of c [] x below e = elim (keyed c x) as (λ b. keyed c x ≡ b → (b || false) ≡ true → is_gt (K c (key x)) ≡ false) [ true ↦ λ h _. ap is_gt (equal_from (K c (key x)) h) | false ↦ λ _ h. absurd (true≢false (sym h)) ] refl e
  least_of c (d ∷ ds) x below e =
      elim (keyed c x) as (λ b. keyed c x ≡ b → (b || (keyed d x || has_one ds x)) ≡ true → is_gt (K c (key x)) ≡ false) [
        | true ↦ λ h _. ap is_gt (equal_from (K c (key x)) h)
        | false ↦ λ _ g. in_rest (d ∷ ds) below g
      ] refl e
    where
      in_rest : (es : List C) → AllByRecursion (λ f. K c f ≡ Less) es → has_one es x ≡ true → is_gt (K c (key x)) ≡ false
      in_rest [] all h = absurd (true≢false (sym h))
      in_rest (f ∷ fs) all h =
          elim (keyed f x) as (λ b. keyed f x ≡ b → (b || has_one fs x) ≡ true → is_gt (K c (key x)) ≡ false) [
            | true ↦ λ t _. ap is_gt (away c f x all.0 t)
            | false ↦ λ _ g. in_rest fs all.1 g
          ] refl h

  least_all : (c : C) (cs : List C) (xs : List X) → AllByRecursion (λ d. K c d ≡ Less) cs → AllByRecursion (λ x. has_one (c ∷ cs) x ≡ true) xs → AllByRecursion (λ y. is_gt (K c (key y)) ≡ false) xs
  least_all c cs [] below all = tt
  least_all c cs (x ∷ xs) below all = (least_of c cs x below all.0, least_all c cs xs below all.1)

  -- those that are left have one of the other keys
  left_have : (c : C) (cs : List C) (xs : List X) → AllByRecursion (λ x. has_one (c ∷ cs) x ≡ true) xs → AllByRecursion (λ x. has_one cs x ≡ true) (filter (λ x. not (keyed c x)) xs)
  left_have c cs [] all = tt
  left_have c cs (x ∷ xs) all =
      elim (keyed c x) as (λ b. (b || has_one cs x) ≡ true → AllByRecursion (λ y. has_one cs y ≡ true) (cond (not b) (x ∷ filter (λ y. not (keyed c y)) xs) (filter (λ y. not (keyed c y)) xs))) [
        | true ↦ λ _. left_have c cs xs all.1
        | false ↦ λ h. (h, left_have c cs xs all.1)
      ] all.0

  -- and the groups of the other keys are those of all
  group_left : (c d : C) (xs : List X) → K c d ≡ Less → filter (keyed d) (filter (λ x. not (keyed c x)) xs) ≡ filter (keyed d) xs
  group_left c d [] less = refl
  group_left c d (x ∷ xs) less =
      elim (keyed c x) as (λ b. keyed c x ≡ b → filter (keyed d) (cond (not b) (x ∷ filter (λ y. not (keyed c y)) xs) (filter (λ y. not (keyed c y)) xs)) ≡ filter (keyed d) (x ∷ xs)) [
        | true ↦ λ e. group_left c d xs less
            ∙ elim (keyed d x) as (λ b. keyed d x ≡ b → filter (keyed d) xs ≡ cond b (x ∷ filter (keyed d) xs) (filter (keyed d) xs)) [
              | true ↦ λ t. absurd (true≢false (sym e ∙ ap is_eq (away c d x less t)))
              | false ↦ λ _. refl
            ] refl
        | false ↦ λ _. ap (λ l. cond (keyed d x) (x ∷ l) l) (group_left c d xs less)
      ] refl

  groups_left : (c : C) (cs : List C) (xs : List X) → AllByRecursion (λ d. K c d ≡ Less) cs → groups cs (filter (λ x. not (keyed c x)) xs) ≡ groups cs xs
  groups_left c [] xs below = refl
  groups_left c (d ∷ ds) xs below =
      ap (λ l. in_order Rest l ++ groups ds (filter (λ x. not (keyed c x)) xs)) (group_left c d xs below.0) ∙ ap (λ l. in_order Rest (filter (keyed d) xs) ++ l) (groups_left c ds xs below.1)

  none_left : (xs : List X) → AllByRecursion (λ x. false ≡ true) xs → xs ≡ []
  none_left [] all = refl
  none_left (x ∷ xs) all = absurd (true≢false (sym all.0))

  -- the order is the groups, one after another
  pub groups_all : (cs : List C) (xs : List X) → Rise cs → AllByRecursion (λ x. has_one cs x ≡ true) xs → in_order Both xs ≡ groups cs xs
  groups_all [] xs rise all = ap (in_order Both) (none_left xs all)
  groups_all (c ∷ cs) xs rise all =
      least_first c xs (least_all c cs xs rise.0 all)
      ∙ ap (λ l. in_order Rest (filter (keyed c) xs) ++ l) (groups_all cs (filter (λ x. not (keyed c x)) xs) rise.1 (left_have c cs xs all) ∙ groups_left c cs xs rise.0)
