-- Where a name stands in a rising list of names, and what a write there gives.
use Rattle.std.proofs.Common.{◌≡◌, ℕ, zero, suc, ◌<◌, ◌≤◌, ◌+◌, List, [], ◌∷◌, length, get_or, set, Some, None, Result, Ok, Err, cond, sym, ap, subst, ◌∙◌, arith, refl, map, inl, inr}
use Rattle.std.specs.Prelude.{insert}
use Rattle.std.specs.Ordering.{nat_cmp, match_ordering, is_eq, ordering_reverse}
use Rattle.std.specs.Cmp.{IsTotalOrder}
use Rattle.std.specs.List.{AllByRecursion}
use Rattle.std.specs.List.Sorted.{IsStrictlySortedBy}
use Rattle.std.specs.Cmp.Lexicographic.{slice_cmp, nat_list_cmp_total}
use Rattle.std.specs.Map.{keys_of, lookup}
use Rattle.std.specs.BTreeMap.{insert_entry, is_at}
use Rattle.std.specs.declared.cmp.Ordering.{Ordering}
use Rattle.std.specs.declared.cmp.Ordering.TheVariants.{Less, Equal, Greater}
use Rattle.std.proofs.lemmas.List.{length-map, map-set}
use Rattle.std.proofs.lemmas.Map.Keys.{Less-from_sorted}
use Rattle.std.proofs.Math.Nat.{eq-or-lt_of_le}
use Rattle.soc_base.specs.Names.{IsRising}
use Rattle.soc_base.specs.inner.Places.{IsPlaceOf, IsBelow, IsAbove}

-- what is above x is above what is below x
all_above : {K : Type 0} {cmp : K → K → Ordering} → IsTotalOrder cmp → (k x : K) (ks : List K) → cmp k x ≡ Less → AllByRecursion (λ y. cmp x y ≡ Less) ks → AllByRecursion (λ y. cmp k y ≡ Less) ks
all_above o k x [] less all = tt
all_above o k x (y ∷ ks) less all = (o.trans k x y less all.0, all_above o k x ks less all.1)

module _ {K V : Type 0} (cmp : K → K → Ordering) (k : K) where
  -- a key that stands in no pair goes between those below and those above it
  pub insert_at_gap : (ps : List (K × V)) (v : V) (i : ℕ) → i ≤ length ps
      → ((j : ℕ) (d : K) → j < i → cmp k (get_or (keys_of ps) j d) ≡ Greater)
      → ((j : ℕ) (d : K) → i ≤ j → j < length ps → cmp k (get_or (keys_of ps) j d) ≡ Less)
      → insert_entry cmp ps k v ≡ insert ps i (k, v)
  insert_at_gap [] v zero le below above = refl
  insert_at_gap [] v (suc i) le below above = absurd (omega arith)
  insert_at_gap (p ∷ ps) v zero le below above =
      let less : cmp k p.0 ≡ Less = above 0 k (omega arith) (omega arith) in
      ap (λ o. match_ordering o ((k, v) ∷ p ∷ ps) ((p.0, v) ∷ ps) (p ∷ insert_entry cmp ps k v)) less
  insert_at_gap (p ∷ ps) v (suc i) le below above =
      let greater : cmp k p.0 ≡ Greater = below 0 k (omega arith) in
      ap (λ o. match_ordering o ((k, v) ∷ p ∷ ps) ((p.0, v) ∷ ps) (p ∷ insert_entry cmp ps k v)) greater
      ∙ ap (λ t. p ∷ t) (insert_at_gap ps v i (omega arith) (λ j d h. below (suc j) d (omega arith)) (λ j d h h'. above (suc j) d (omega arith) (omega arith)))

  -- a key that stands in a pair keeps its place there
  pub insert_at_place : (ps : List (K × V)) (v : V) (i : ℕ) (w : K) → i < length ps → w ≡ get_or (keys_of ps) i w
      → ((j : ℕ) (d : K) → j < i → cmp k (get_or (keys_of ps) j d) ≡ Greater)
      → cmp k w ≡ Equal
      → insert_entry cmp ps k v ≡ set ps i (w, v)
  insert_at_place [] v i w lt is below equal = absurd (omega arith)
  insert_at_place (p ∷ ps) v zero w lt is below equal =
      ap (λ o. match_ordering o ((k, v) ∷ p ∷ ps) ((p.0, v) ∷ ps) (p ∷ insert_entry cmp ps k v)) (ap (λ u. cmp k u) (sym is) ∙ equal)
      ∙ ap (λ u. (u, v) ∷ ps) (sym is)
  insert_at_place (p ∷ ps) v (suc i) w lt is below equal =
      let greater : cmp k p.0 ≡ Greater = below 0 k (omega arith) in
      ap (λ o. match_ordering o ((k, v) ∷ p ∷ ps) ((p.0, v) ∷ ps) (p ∷ insert_entry cmp ps k v)) greater
      ∙ ap (λ t. p ∷ t) (insert_at_place ps v i w (omega arith) is (λ j d h. below (suc j) d (omega arith)) equal)

  pub lookup_at_place : (ps : List (K × V)) (i : ℕ) (e : K × V) → i < length ps
      → ((j : ℕ) (d : K) → j < i → cmp k (get_or (keys_of ps) j d) ≡ Greater)
      → ((d : K) → cmp k (get_or (keys_of ps) i d) ≡ Equal)
      → lookup (is_at (cmp k)) ps ≡ Some (get_or ps i e).1
  lookup_at_place [] i e lt below equal = absurd (omega arith)
  lookup_at_place (p ∷ ps) zero e lt below equal = ap (λ o. cond (is_eq o) (Some p.1) (lookup (is_at (cmp k)) ps)) (equal k)
  lookup_at_place (p ∷ ps) (suc i) e lt below equal =
      ap (λ o. cond (is_eq o) (Some p.1) (lookup (is_at (cmp k)) ps)) (below 0 k (omega arith))
      ∙ lookup_at_place ps i e (omega arith) (λ j d h. below (suc j) d (omega arith)) equal

  pub lookup_at_gap : (ps : List (K × V)) (i : ℕ) → i ≤ length ps
      → ((j : ℕ) (d : K) → j < i → cmp k (get_or (keys_of ps) j d) ≡ Greater)
      → ((j : ℕ) (d : K) → i ≤ j → j < length ps → cmp k (get_or (keys_of ps) j d) ≡ Less)
      → lookup (is_at (cmp k)) ps ≡ None
  lookup_at_gap [] i le below above = refl
  lookup_at_gap (p ∷ ps) zero le below above =
      ap (λ o. cond (is_eq o) (Some p.1) (lookup (is_at (cmp k)) ps)) (above 0 k (omega arith) (omega arith))
      ∙ lookup_at_gap ps zero (omega arith) (λ j d h. absurd (omega arith)) (λ j d h h'. above (suc j) d (omega arith) (omega arith))
  lookup_at_gap (p ∷ ps) (suc i) le below above =
      ap (λ o. cond (is_eq o) (Some p.1) (lookup (is_at (cmp k)) ps)) (below 0 k (omega arith))
      ∙ lookup_at_gap ps i (omega arith) (λ j d h. below (suc j) d (omega arith)) (λ j d h h'. above (suc j) d (omega arith) (omega arith))

  all_keys_inserted : (P : K → Type 0) (ps : List (K × V)) (v : V) → AllByRecursion P (keys_of ps) → P k → AllByRecursion P (keys_of (insert_entry cmp ps k v))
  all_keys_inserted P [] v all at = (at, tt)
  all_keys_inserted P (p ∷ ps) v all at =
      elim (cmp k p.0) as (λ o. AllByRecursion P (keys_of (match_ordering o ((k, v) ∷ p ∷ ps) ((p.0, v) ∷ ps) (p ∷ insert_entry cmp ps k v)))) [
        | Less ↦ (at, all)
        | Equal ↦ all
        | Greater ↦ (all.0, all_keys_inserted P ps v all.1 at)
      ]

  -- keys that rise rise after one more
  pub rising_inserted : IsTotalOrder cmp → (ps : List (K × V)) (v : V) → IsStrictlySortedBy cmp (keys_of ps) → IsStrictlySortedBy cmp (keys_of (insert_entry cmp ps k v))
  unfolding IsStrictlySortedBy
  rising_inserted o [] v rising = (tt, tt)
  rising_inserted o (p ∷ ps) v rising =
      elim (cmp k p.0) as (λ r. cmp k p.0 ≡ r → IsStrictlySortedBy cmp (keys_of (match_ordering r ((k, v) ∷ p ∷ ps) ((p.0, v) ∷ ps) (p ∷ insert_entry cmp ps k v)))) [
        | Less ↦ λ is. ((is, all_above o k p.0 (keys_of ps) is rising.0), rising)
        | Equal ↦ λ is. rising
        | Greater ↦ λ is. (all_keys_inserted (λ y. cmp p.0 y ≡ Less) ps v rising.0 (o.antisymm p.0 k ∙ ap ordering_reverse is), rising_inserted o ps v rising.1)
      ] refl

module _ {E V : Type 0} (name : E → List ℕ) (value : E → V) where
  abbrev pairs : List E → List (List ℕ × V)
  pairs es = map (λ e. (name e, value e)) es

  pub key_at : (es : List E) (i : ℕ) (d : List ℕ) (e : E) → i < length es → get_or (keys_of (pairs es)) i d ≡ name (get_or es i e)
  key_at [] i d e lt = absurd (omega arith)
  key_at (x ∷ es) zero d e lt = refl
  key_at (x ∷ es) (suc i) d e lt = key_at es i d e (omega arith)

  pub pair_at : (es : List E) (i : ℕ) (p : List ℕ × V) (e : E) → i < length es → get_or (pairs es) i p ≡ (name (get_or es i e), value (get_or es i e))
  pair_at [] i p e lt = absurd (omega arith)
  pair_at (x ∷ es) zero p e lt = refl
  pair_at (x ∷ es) (suc i) p e lt = pair_at es i p e (omega arith)

-- names in the other order
turned : (x y : List ℕ) (r : Ordering) → slice_cmp nat_cmp x y ≡ r → slice_cmp nat_cmp y x ≡ ordering_reverse r
turned x y r is = nat_list_cmp_total.antisymm y x ∙ ap ordering_reverse is

module _ {E V : Type 0} (name : E → List ℕ) (value : E → V) (es : List E) (n : List ℕ) where
  abbrev ps : List (List ℕ × V)
  ps = map (λ e. (name e, value e)) es

  keys_long : length (keys_of ps) ≡ length es
  keys_long = length-map ps (λ p. p.0) ∙ length-map es _

  -- a name that rises stands below the later ones
  pub rises : IsRising ps → (i j : ℕ) (d : List ℕ) → i < j → j < length es → slice_cmp nat_cmp (get_or (keys_of ps) i d) (get_or (keys_of ps) j d) ≡ Less
  rises rising i j d lt in_es = Less-from_sorted (slice_cmp nat_cmp) (keys_of ps) i j d rising lt (subst (λ u. j < u) (sym keys_long) in_es)

  -- all names up to one below n are below n
  pub below_from : IsRising ps → (m : ℕ) (x : E) → m < length es → slice_cmp nat_cmp (name (get_or es m x)) n ≡ Less → IsBelow ps n (m + 1)
  below_from rising m x lt less j d h =
      let here : slice_cmp nat_cmp (get_or (keys_of ps) m d) n ≡ Less = ap (λ u. slice_cmp nat_cmp u n) (key_at name value es m d x lt) ∙ less in
      turned (get_or (keys_of ps) j d) n Less
      (elim (eq-or-lt_of_le {n = j} {m = m} (omega arith)) [
        | inl e ↦ ap (λ u. slice_cmp nat_cmp (get_or (keys_of ps) u d) n) e ∙ here
        | inr l ↦ nat_list_cmp_total.trans (get_or (keys_of ps) j d) (get_or (keys_of ps) m d) n (rises rising j m d l lt) here
      ])

  -- all names from one above n on are above n
  pub above_from : IsRising ps → (m : ℕ) (x : E) → m < length es → slice_cmp nat_cmp (name (get_or es m x)) n ≡ Greater → IsAbove ps n m
  above_from rising m x lt greater j d h h' =
      let long : length ps ≡ length es = length-map es _ in
      let in_es : j < length es = subst (λ u. j < u) long h' in
      let here : slice_cmp nat_cmp n (get_or (keys_of ps) m d) ≡ Less =
      turned (get_or (keys_of ps) m d) n Greater (ap (λ u. slice_cmp nat_cmp u n) (key_at name value es m d x lt) ∙ greater) in
      elim (eq-or-lt_of_le {n = m} {m = j} h) [
        | inl e ↦ ap (λ u. slice_cmp nat_cmp n (get_or (keys_of ps) u d)) (sym e) ∙ here
        | inr l ↦ nat_list_cmp_total.trans n (get_or (keys_of ps) m d) (get_or (keys_of ps) j d) here (rises rising m j d l in_es)
      ]

  -- the place of a name that is there
  pub place_of_equal : IsRising ps → (m : ℕ) (x : E) → m < length es → slice_cmp nat_cmp (name (get_or es m x)) n ≡ Equal → IsPlaceOf ps n (Ok m)
  place_of_equal rising m x lt equal =
      let at : (d : List ℕ) → slice_cmp nat_cmp (get_or (keys_of ps) m d) n ≡ Equal = λ d. ap (λ u. slice_cmp nat_cmp u n) (key_at name value es m d x lt) ∙ equal in (
        subst (λ u. m < u) (sym (length-map es _)) lt,
        (λ j d h. sym (nat_list_cmp_total.congr (get_or (keys_of ps) m d) n (get_or (keys_of ps) j d) (at d)) ∙ turned (get_or (keys_of ps) j d) (get_or (keys_of ps) m d) Less (rises rising j m d h lt)),
        λ d. turned (get_or (keys_of ps) m d) n Equal (at d),
      )

map-insert : {A B : Type 0} (f : A → B) (xs : List A) (i : ℕ) (x : A) → map f (insert xs i x) ≡ insert (map f xs) i (f x)
map-insert f [] zero x = refl
map-insert f [] (suc i) x = refl
map-insert f (y ∷ xs) zero x = refl
map-insert f (y ∷ xs) (suc i) x = ap (λ t. f y ∷ t) (map-insert f xs i x)

module _ {E V : Type 0} (name : E → List ℕ) (value : E → V) (es : List E) where
  -- an element that takes the place of the one with its name
  pub written_at_place : (n : List ℕ) (v : V) (i : ℕ) (x y : E) → IsPlaceOf (map (λ e. (name e, value e)) es) n (Ok i)
      → x ≡ get_or es i x → name y ≡ name x → value y ≡ v
      → map (λ e. (name e, value e)) (set es i y) ≡ insert_entry (slice_cmp nat_cmp) (map (λ e. (name e, value e)) es) n v
  written_at_place n v i x y place at same_name new_value =
      let ps : List (List ℕ × V) = map (λ e. (name e, value e)) es in
      let lt : i < length es = subst (λ u. i < u) (length-map es _) place.0 in
      let key : name x ≡ get_or (keys_of ps) i (name x) = ap name at ∙ sym (key_at name value es i (name x) x lt) in
      map-set (λ e. (name e, value e)) es i y
      ∙ (ap (λ p. set ps i p) (ap (λ u. (u, value y)) same_name ∙ ap (λ u. (name x, u)) new_value)
      ∙ sym (insert_at_place (slice_cmp nat_cmp) n ps v i (name x) place.0 key place.1 (ap (λ u. slice_cmp nat_cmp n u) key ∙ place.2 (name x))))

  -- an element that is put where its name would stand
  pub inserted_at_gap : (n : List ℕ) (v : V) (i : ℕ) (y : E) → IsPlaceOf (map (λ e. (name e, value e)) es) n (Err i)
      → name y ≡ n → value y ≡ v
      → map (λ e. (name e, value e)) (insert es i y) ≡ insert_entry (slice_cmp nat_cmp) (map (λ e. (name e, value e)) es) n v
  inserted_at_gap n v i y place new_name new_value =
      let ps : List (List ℕ × V) = map (λ e. (name e, value e)) es in
      map-insert (λ e. (name e, value e)) es i y
      ∙ (ap (λ p. insert ps i p) (ap (λ u. (u, value y)) new_name ∙ ap (λ u. (n, u)) new_value)
      ∙ sym (insert_at_gap (slice_cmp nat_cmp) n ps v i place.0 place.1 place.2))

  -- what stands at a name's place
  pub found_at_place : (n : List ℕ) (i : ℕ) (x : E) → IsPlaceOf (map (λ e. (name e, value e)) es) n (Ok i) → x ≡ get_or es i x
      → Some (value x) ≡ lookup (is_at (slice_cmp nat_cmp n)) (map (λ e. (name e, value e)) es)
  found_at_place n i x place at =
      let ps : List (List ℕ × V) = map (λ e. (name e, value e)) es in
      let lt : i < length es = subst (λ u. i < u) (length-map es _) place.0 in
      let pair : (name x, value x) ≡ get_or ps i (name x, value x) = ap (λ e. (name e, value e)) at ∙ sym (pair_at name value es i (name x, value x) x lt) in
      ap (λ p. Some p.1) pair ∙ sym (lookup_at_place (slice_cmp nat_cmp) n ps i (name x, value x) place.0 place.1 place.2)

  -- what has no place is not there
  pub missing_at_gap : (n : List ℕ) (i : ℕ) → IsPlaceOf (map (λ e. (name e, value e)) es) n (Err i)
      → None ≡ lookup (is_at (slice_cmp nat_cmp n)) (map (λ e. (name e, value e)) es)
  missing_at_gap n i place = sym (lookup_at_gap (slice_cmp nat_cmp) n (map (λ e. (name e, value e)) es) i place.0 place.1 place.2)

-- a place is one of equal elements and an equal name
pub place_along : {E V : Type 0} (name : E → List ℕ) (value : E → V) {es fs : List E} {n m : List ℕ} (r : Result ℕ ℕ) → es ≡ fs → n ≡ m
    → IsPlaceOf (map (λ e. (name e, value e)) es) n r → IsPlaceOf (map (λ e. (name e, value e)) fs) m r
place_along name value {es = es} {fs = fs} {n = n} {m = m} r same_elements same_name place =
    subst (λ u. IsPlaceOf (map (λ e. (name e, value e)) fs) u r) same_name (subst (λ u. IsPlaceOf (map (λ e. (name e, value e)) u) n r) same_elements place)

-- names that rise rise after one more
pub rising_after : {V : Type 0} (ps qs : List (List ℕ × V)) (n : List ℕ) (v : V) → IsRising ps → qs ≡ insert_entry (slice_cmp nat_cmp) ps n v → IsRising qs
rising_after ps qs n v rising is = subst (λ t. IsRising t) (sym is) (rising_inserted (slice_cmp nat_cmp) n nat_list_cmp_total ps v rising)

pub rising_from_none : {E V : Type 0} (name : E → List ℕ) (value : E → V) (es : List E) → es ≡ [] → IsRising (map (λ e. (name e, value e)) es)
unfolding IsStrictlySortedBy
rising_from_none name value es is = subst (λ t. IsRising (map (λ e. (name e, value e)) t)) (sym is) tt
