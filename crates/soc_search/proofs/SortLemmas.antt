-- A stable sort puts a list in order.
use Rattle.std.proofs.Common.{◌≡◌, ℕ, suc, ◌<◌, ◌≤◌, Bool, true, false, cond, List, [], ◌∷◌, length, map, filter, get_or, refl, sym, ap, ◌∙◌, arith, subst}
use Rattle.std.specs.Prelude.{not, ◌&&◌, if◌then◌else◌}
use Rattle.std.proofs.lemmas.Bool.{true≢false}
use Rattle.std.specs.List.{AllByRecursion}
use Rattle.std.specs.Cmp.{IsTotalOrder}
use Rattle.std.specs.List.Sorted.{IsSortedBy, IsStableBy, ties}
use Rattle.std.proofs.lemmas.List.Sorted.{sorted_far, ranks_by}
use Rattle.std.proofs.lemmas.List.Elements.{filter_agree}
use Rattle.std.proofs.lemmas.Cmp.{on_total, upto, tied_itself}
use Rattle.std.specs.Ordering.{is_lt, is_eq, is_gt, ordering_reverse}
use Rattle.std.specs.declared.cmp.Ordering.{Ordering}
use Rattle.std.specs.declared.cmp.Ordering.TheVariants.{Less, Equal, Greater}
use Rattle.soc_base.proofs.Folk.{equal_from}
use Rattle.soc_schema.specs.Orders.{in_order, put_in_order}

-- neither way is the third way
tie_is : (r : Ordering) → (not (is_lt r) && not (is_lt (ordering_reverse r))) ≡ is_eq r
tie_is Less = refl
tie_is Equal = refl
tie_is Greater = refl

lt_back : (r : Ordering) → is_lt (ordering_reverse r) ≡ is_gt r
lt_back Less = refl
lt_back Equal = refl
lt_back Greater = refl

gt_back : (r : Ordering) → is_gt r ≡ true → is_gt (ordering_reverse r) ≡ false
gt_back Less e = cc
gt_back Equal e = cc
gt_back Greater e = refl

neither : (r : Ordering) → is_gt r ≡ false → is_gt (ordering_reverse r) ≡ false → is_eq r ≡ true
neither Less e h = cc
neither Equal e h = refl
neither Greater e h = cc

eq_back : (r q : Ordering) → q ≡ ordering_reverse r → is_eq r ≡ false → is_eq q ≡ false
eq_back Less q e h = ap is_eq e
eq_back Equal q e h = cc
eq_back Greater q e h = ap is_eq e

pub all_filtered : {X : Type 0} (P : X → Type 0) (q : X → Bool) (xs : List X) → AllByRecursion P xs → AllByRecursion P (filter q xs)
all_filtered P q [] all = tt
all_filtered P q (x ∷ xs) all =
    elim (q x) as (λ b. AllByRecursion P (cond b (x ∷ filter q xs) (filter q xs))) [ true ↦ (all.0, all_filtered P q xs all.1) | false ↦ all_filtered P q xs all.1 ]

all_at : {X : Type 0} (P : X → Type 0) (xs : List X) → ((k : ℕ) (d : X) → k < length xs → P (get_or xs k d)) → AllByRecursion P xs
all_at P [] each = tt
all_at P (x ∷ xs) each = (each 0 x (omega arith), all_at P xs (λ k d h. each (suc k) d (omega arith)))

-- what holds of each holds of each in order
put_all : {X : Type 0} (R : X → X → Ordering) (P : X → Type 0) (x : X) (ys : List X) → P x → AllByRecursion P ys → AllByRecursion P (put_in_order R x ys)
put_all R P x [] here all = (here, tt)
put_all R P x (y ∷ ys) here all =
    elim (is_gt (R x y)) as (λ b. AllByRecursion P (cond b (y ∷ put_in_order R x ys) (x ∷ y ∷ ys))) [ true ↦ (all.0, put_all R P x ys here all.1) | false ↦ (here, (all.0, all.1)) ]

pub order_all : {X : Type 0} (R : X → X → Ordering) (P : X → Type 0) (xs : List X) → AllByRecursion P xs → AllByRecursion P (in_order R xs)
order_all R P [] all = tt
order_all R P (x ∷ xs) all = put_all R P x (in_order R xs) all.0 (order_all R P xs all.1)

-- orders that agree give one order
put_agree : {X : Type 0} (R S : X → X → Ordering) → ((x y : X) → R x y ≡ S x y) → (x : X) (ys : List X) → put_in_order R x ys ≡ put_in_order S x ys
put_agree R S same x [] = refl
put_agree R S same x (y ∷ ys) = ap (λ r. cond (is_gt r) (y ∷ put_in_order R x ys) (x ∷ y ∷ ys)) (same x y) ∙ ap (λ l. cond (is_gt (S x y)) (y ∷ l) (x ∷ y ∷ ys)) (put_agree R S same x ys)

pub order_agree : {X : Type 0} (R S : X → X → Ordering) → ((x y : X) → R x y ≡ S x y) → (xs : List X) → in_order R xs ≡ in_order S xs
order_agree R S same [] = refl
order_agree R S same (x ∷ xs) = ap (put_in_order R x) (order_agree R S same xs) ∙ put_agree R S same x (in_order S xs)

-- as many are put in order as there are
put_length : {X : Type 0} (R : X → X → Ordering) (x : X) (ys : List X) → length (put_in_order R x ys) ≡ suc (length ys)
put_length R x [] = refl
put_length R x (y ∷ ys) = elim (is_gt (R x y)) as (λ b. length (cond b (y ∷ put_in_order R x ys) (x ∷ y ∷ ys)) ≡ suc (suc (length ys))) [ true ↦ ap suc (put_length R x ys) | false ↦ refl ]

pub order_length : {X : Type 0} (R : X → X → Ordering) (xs : List X) → length (in_order R xs) ≡ length xs
order_length R [] = refl
order_length R (x ∷ xs) = put_length R x (in_order R xs) ∙ ap suc (order_length R xs)

module _ {X : Type 0} (R : X → X → Ordering) (o : IsTotalOrder R) where
  -- nothing is above what stands behind it
  abbrev pub Up : List X → Type 0
  Up [] = Unit {0}
  Up (x ∷ xs) = AllByRecursion (λ y. is_gt (R x y) ≡ false) xs × Up xs

  abbrev pub of_kind : X → List X → List X
  of_kind u xs = filter (λ y. is_eq (R u y)) xs

  swapped : (x y : X) (a b : Bool) (u : X) (F : List X) → is_gt (R x y) ≡ true → is_eq (R u x) ≡ a → is_eq (R u y) ≡ b
      → cond b (y ∷ cond a (x ∷ F) F) (cond a (x ∷ F) F) ≡ cond a (x ∷ cond b (y ∷ F) F) (cond b (y ∷ F) F)
  swapped x y true true u F over at bt =
      let same : R x y ≡ R u y = sym (o.congr u x y (equal_from (R u x) at)) in
      let tied : R x y ≡ Equal = same ∙ equal_from (R u y) bt in
      let no : true ≡ false = sym over ∙ ap is_gt tied in absurd (true≢false no)
  swapped x y true false u F over at bt = refl
  swapped x y false true u F over at bt = refl
  swapped x y false false u F over at bt = refl

  put_kind : (u x : X) (ys : List X) → of_kind u (put_in_order R x ys) ≡ of_kind u (x ∷ ys)
  put_kind u x [] = refl
  put_kind u x (y ∷ ys) =
      elim (is_gt (R x y)) as (λ b. is_gt (R x y) ≡ b → of_kind u (if b then y ∷ put_in_order R x ys else x ∷ y ∷ ys) ≡ of_kind u (x ∷ y ∷ ys)) [
        | true ↦ λ over. ap (λ l. cond (is_eq (R u y)) (y ∷ l) l) (put_kind u x ys) ∙ swapped x y (is_eq (R u x)) (is_eq (R u y)) u (of_kind u ys) over refl refl
        | false ↦ λ _. refl
      ] refl

  pub order_kind : (u : X) (xs : List X) → of_kind u (in_order R xs) ≡ of_kind u xs
  order_kind u [] = refl
  order_kind u (x ∷ xs) = put_kind u x (in_order R xs) ∙ ap (λ l. cond (is_eq (R u x)) (x ∷ l) l) (order_kind u xs)

  below_all : (x y : X) (ys : List X) → is_gt (R x y) ≡ false → AllByRecursion (λ z. is_gt (R y z) ≡ false) ys → AllByRecursion (λ z. is_gt (R x z) ≡ false) ys
  below_all x y [] h all = tt
  below_all x y (z ∷ zs) h all = (upto o x y z h all.0, below_all x y zs h all.1)

  put_up : (x : X) (ys : List X) → Up ys → Up (put_in_order R x ys)
  put_up x [] up = (tt, tt)
  put_up x (y ∷ ys) up =
      elim (is_gt (R x y)) as (λ b. is_gt (R x y) ≡ b → Up (if b then y ∷ put_in_order R x ys else x ∷ y ∷ ys)) [
        | true ↦ λ over. (put_all R (λ z. is_gt (R y z) ≡ false) x ys (ap is_gt (o.antisymm y x) ∙ gt_back (R x y) over) up.0, put_up x ys up.1)
        | false ↦ λ under. ((under, below_all x y ys under up.0), up)
      ] refl

  pub order_up : (xs : List X) → Up (in_order R xs)
  order_up [] = tt
  order_up (x ∷ xs) = put_up x (in_order R xs) (order_up xs)

  itself : (x : X) → is_eq (R x x) ≡ true
  itself x = ap is_eq (tied_itself o x)

  kind_itself : (x : X) (xs : List X) → of_kind x (x ∷ xs) ≡ x ∷ of_kind x xs
  kind_itself x xs = ap (λ b. cond b (x ∷ of_kind x xs) (of_kind x xs)) (itself x)

  -- where the heads aren't of one kind, each stands behind the other
  behind : (y z : X) (ys zs : List X) → Up (z ∷ zs) → of_kind y (y ∷ ys) ≡ of_kind y (z ∷ zs) → is_eq (R y z) ≡ false → is_gt (R z y) ≡ false
  behind y z ys zs up kinds apart =
      let rest : y ∷ of_kind y ys ≡ of_kind y zs = sym (kind_itself y ys) ∙ kinds ∙ ap (λ b. cond b (z ∷ of_kind y zs) (of_kind y zs)) apart in
      let all : AllByRecursion (λ w. is_gt (R z w) ≡ false) (y ∷ of_kind y ys) = subst (AllByRecursion (λ w. is_gt (R z w) ≡ false)) (sym rest) (all_filtered (λ w. is_gt (R z w) ≡ false) (λ w. is_eq (R y w)) zs up.0) in
      all.0

  heads : (y z : X) (ys zs : List X) → Up (y ∷ ys) → Up (z ∷ zs) → ((u : X) → of_kind u (y ∷ ys) ≡ of_kind u (z ∷ zs)) → y ≡ z
  heads y z ys zs up upz kinds =
      elim (is_eq (R y z)) as (λ b. is_eq (R y z) ≡ b → y ≡ z) [
        | true ↦ λ same. let e : y ∷ of_kind y ys ≡ z ∷ of_kind y zs = sym (kind_itself y ys) ∙ kinds y ∙ ap (λ b. cond b (z ∷ of_kind y zs) (of_kind y zs)) same in cc
        | false ↦ λ apart.
            let first : is_gt (R z y) ≡ false = behind y z ys zs upz (kinds y) apart in
            let apart_back : is_eq (R z y) ≡ false = eq_back (R y z) (R z y) (o.antisymm z y) apart in
            let second : is_gt (R y z) ≡ false = behind z y zs ys up (sym (kinds z)) apart_back in
            let tied : is_eq (R y z) ≡ true = neither (R y z) second (ap is_gt (sym (o.antisymm z y)) ∙ first) in
            absurd (true≢false (sym tied ∙ apart))
      ] refl

  same_tail : {x : X} {xs ys : List X} → x ∷ xs ≡ x ∷ ys → xs ≡ ys
  same_tail e = cc

  tail_kinds : (x : X) (b : Bool) (F G : List X) → cond b (x ∷ F) F ≡ cond b (x ∷ G) G → F ≡ G
  tail_kinds x true F G e = same_tail e
  tail_kinds x false F G e = e

  -- lists that rise and have the same of each kind in the same order are the same
  pub unique : (ys zs : List X) → Up ys → Up zs → ((u : X) → of_kind u ys ≡ of_kind u zs) → ys ≡ zs
  unique [] [] up upz kinds = refl
  unique [] (z ∷ zs) up upz kinds = let e : [] ≡ z ∷ of_kind z zs = kinds z ∙ kind_itself z zs in cc
  unique (y ∷ ys) [] up upz kinds = let e : y ∷ of_kind y ys ≡ [] = sym (kind_itself y ys) ∙ kinds y in cc
  unique (y ∷ ys) (z ∷ zs) up upz kinds =
      let e : y ≡ z = heads y z ys zs up upz kinds in
      let moved : (u : X) → of_kind u (y ∷ ys) ≡ of_kind u (y ∷ zs) = λ u. kinds u ∙ ap (λ w. of_kind u (w ∷ zs)) (sym e) in
      ap (λ l. y ∷ l) (unique ys zs up.1 upz.1 (λ u. tail_kinds y (is_eq (R u y)) (of_kind u ys) (of_kind u zs) (moved u))) ∙ ap (λ w. w ∷ zs) e

  up_from : (xs : List X) → ((i j : ℕ) (d : X) → i ≤ j → j < length xs → is_lt (R (get_or xs j d) (get_or xs i d)) ≡ false) → Up xs
  up_from [] far = tt
  up_from (x ∷ xs) far = (
    all_at (λ y. is_gt (R x y) ≡ false) xs (λ k d h. sym (lt_back (R x (get_or xs k d))) ∙ (ap is_lt (sym (o.antisymm (get_or xs k d) x)) ∙ far 0 (suc k) d (omega arith) (omega arith))),
    up_from xs (λ i j d le h. far (suc i) (suc j) d (omega arith) (omega arith)),
  )

  kind_is : (u : X) (xs : List X) → filter (ties (λ x y. is_lt (R x y)) u) xs ≡ of_kind u xs
  kind_is u xs = filter_agree (ties (λ x y. is_lt (R x y)) u) (λ y. is_eq (R u y)) (λ y. ap (λ r. not (is_lt (R u y)) && not (is_lt r)) (o.antisymm y u) ∙ tie_is (R u y)) xs

  pub stable_is : (xs ys : List X) → IsSortedBy (λ x y. is_lt (R x y)) ys → IsStableBy (λ x y. is_lt (R x y)) xs ys → ys ≡ in_order R xs
  stable_is xs ys sorted stable =
      unique ys (in_order R xs)
      (up_from ys (sorted_far (λ x y. is_lt (R x y)) (ranks_by o (λ x. x)) ys sorted))
      (order_up xs)
      (λ u. sym (kind_is u ys) ∙ (stable u ∙ (kind_is u xs ∙ sym (order_kind u xs))))

-- the order of what is made of the elements
put_map : {X Y : Type 0} (g : X → Y) (R : Y → Y → Ordering) (x : X) (ys : List X) → map g (put_in_order (λ a b. R (g a) (g b)) x ys) ≡ put_in_order R (g x) (map g ys)
put_map g R x [] = refl
put_map g R x (y ∷ ys) =
    elim (is_gt (R (g x) (g y))) as (λ b. map g (if b then y ∷ put_in_order (λ a c. R (g a) (g c)) x ys else x ∷ y ∷ ys) ≡ (if b then g y ∷ put_in_order R (g x) (map g ys) else g x ∷ g y ∷ map g ys)) [ true ↦ ap (λ l. g y ∷ l) (put_map g R x ys) | false ↦ refl ]

pub order_map : {X Y : Type 0} (g : X → Y) (R : Y → Y → Ordering) (xs : List X) → map g (in_order (λ a b. R (g a) (g b)) xs) ≡ in_order R (map g xs)
order_map g R [] = refl
order_map g R (x ∷ xs) = put_map g R x (in_order (λ a b. R (g a) (g b)) xs) ∙ ap (put_in_order R (g x)) (order_map g R xs)

-- what a stable sort by what is made of the elements gives
pub sorted_by : {X Y : Type 0} (g : X → Y) (R : Y → Y → Ordering) (o : IsTotalOrder R) (xs ys : List X) → IsSortedBy (λ x y. is_lt (R (g x) (g y))) ys → IsStableBy (λ x y. is_lt (R (g x) (g y))) xs ys → map g ys ≡ in_order R (map g xs)
sorted_by g R o xs ys sorted stable = ap (map g) (stable_is (λ a b. R (g a) (g b)) (on_total g o) xs ys sorted stable) ∙ order_map g R xs
