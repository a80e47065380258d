-- The numbers of crashes in the order of their ids.
use Rattle.std.proofs.Common.{◌≡◌, ℕ, zero, suc, ◌+◌, ◌<◌, ◌≤◌, true, false, List, [], ◌∷◌, ◌++◌, length, get_or, map, Some, Ok, Err, sym, ap, subst, ◌∙◌, arith, refl, inl, inr}
use Rattle.std.specs.Prelude.{slice_get, insert, Contains}
use Rattle.std.specs.declared.cmp.Ordering.{Ordering}
use Rattle.std.specs.declared.cmp.Ordering.TheVariants.{Less, Equal, Greater}
use Rattle.std.specs.Ordering.{ordering_reverse, is_eq}
use Rattle.std.specs.Cmp.Lexicographic.{nat_list_cmp_total}
use Rattle.std.specs.List.{AllByRecursion}
use Rattle.std.specs.List.Sorted.{IsStrictlySortedBy}
use Rattle.std.proofs.lemmas.List.{get_or-map, get_or_push, get_or_append_left, length-map, length_push}
use Rattle.std.proofs.lemmas.List.Elements.{Contains-append_right, Contains-get_or, at_from_Contains}
use Rattle.std.proofs.lemmas.List.Sorted.{IsPermutation-insert, Contains-permutation}
use Rattle.std.proofs.lemmas.Map.Keys.{Less-from_sorted}
use Rattle.std.proofs.lemmas.Map.Text.{is_eq-slice_cmp}
use Rattle.std.proofs.lemmas.Option.{slice_get-get_or}
use Rattle.std.proofs.lemmas.Bool.{cases_lt}
use Rattle.std.proofs.Math.Nat.{eq-or-lt_of_le}
use Rattle.soc_base.specs.Names.{byte_cmp}
use Rattle.soc_ledger.specs.declared.crash.Crash.{Crash}
use Rattle.soc_ledger.specs.Events.{is_among}
use Rattle.soc_ledger.specs.inner.Tables.{FindsNumber, IsIndex, id_at, ids_in}
use Rattle.soc_ledger.proofs.Lists.{all-weaker, among_place, same_text}

pub reversed : (x y : List ℕ) (r : Ordering) → byte_cmp x y ≡ r → byte_cmp y x ≡ ordering_reverse r
reversed x y r is = nat_list_cmp_total.antisymm y x ∙ ap ordering_reverse is

pub equal_texts : (x y : List ℕ) → byte_cmp x y ≡ Equal → x ≡ y
equal_texts x y is = same_text x y (sym (is_eq-slice_cmp x y) ∙ ap is_eq is)

-- the ids of crashes, in one step and in two
pub ids-in : (crashes : List Crash) → ids_in (map (λ crash. crash.filed) crashes) ≡ map (λ crash. crash.filed.id) crashes
ids-in [] = refl
ids-in (c ∷ cs) = ap (λ t. c.filed.id ∷ t) (ids-in cs)

-- the id of a crash that was read
pub id_read : (crashes : List Crash) (number : ℕ) (crash : Crash) → number < length crashes → crash ≡ get_or crashes number crash
    → id_at (map (λ c. c.filed.id) crashes) number ≡ crash.filed.id
id_read crashes number crash lt is = get_or-map (λ (c : Crash). c.filed.id) crashes number crash [] lt ∙ ap (λ c. c.filed.id) (sym is)

pub all_at : (P : ℕ → Type 0) (ns : List ℕ) (i : ℕ) → AllByRecursion P ns → i < length ns → P (get_or ns i 0)
all_at P [] i all lt = absurd (omega arith)
all_at P (n ∷ ns) zero all lt = all.0
all_at P (n ∷ ns) (suc i) all lt = all_at P ns i all.1 (omega arith)

-- how the crash of a number compares
pub compared : (crashes : List Crash) (numbers : List ℕ) (k : ℕ) (crash : Crash) (id : List ℕ) {r : Ordering} → IsIndex (map (λ c. c.filed.id) crashes) numbers → k < length numbers
    → crash ≡ get_or crashes (get_or numbers k 0) crash → byte_cmp crash.filed.id id ≡ r
    → byte_cmp (id_at (map (λ c. c.filed.id) crashes) (get_or numbers k 0)) id ≡ r
compared crashes numbers k crash id index lt is compares =
    let within : get_or numbers k 0 < length (map (λ (c : Crash). c.filed.id) crashes) = all_at (λ n. n < length (map (λ (c : Crash). c.filed.id) crashes)) numbers k index.within lt in
    ap (λ u. byte_cmp u id) (id_read crashes (get_or numbers k 0) crash (subst (λ u. get_or numbers k 0 < u) (length-map crashes (λ (c : Crash). c.filed.id)) within) is) ∙ compares

all-insert : {A : Type 0} (P : A → Type 0) (xs : List A) (i : ℕ) (x : A) → AllByRecursion P xs → P x → AllByRecursion P (insert xs i x)
all-insert P [] zero x all here = (here, tt)
all-insert P [] (suc i) x all here = (here, tt)
all-insert P (y ∷ xs) zero x all here = (here, all)
all-insert P (y ∷ xs) (suc i) x all here = (all.0, all-insert P xs i x all.1 here)

all_from : (P : List ℕ → Type 0) (xs : List (List ℕ)) → ((k : ℕ) → k < length xs → P (get_or xs k [])) → AllByRecursion P xs
all_from P [] each = tt
all_from P (x ∷ xs) each = (each 0 (omega arith), all_from P xs (λ k lt. each (suc k) (omega arith)))

-- a text goes between those below and those above it
sorted-insert : (ks : List (List ℕ)) (i : ℕ) (id : List ℕ) → IsStrictlySortedBy byte_cmp ks → i ≤ length ks
    → ((k : ℕ) → k < i → byte_cmp (get_or ks k []) id ≡ Less)
    → ((k : ℕ) → i ≤ k → k < length ks → byte_cmp (get_or ks k []) id ≡ Greater)
    → IsStrictlySortedBy byte_cmp (insert ks i id)
unfolding IsStrictlySortedBy
sorted-insert [] zero id sorted le below above = (tt, tt)
sorted-insert [] (suc i) id sorted le below above = absurd (omega arith)
sorted-insert (x ∷ ks) zero id sorted le below above =
    (all_from (λ y. byte_cmp id y ≡ Less) (x ∷ ks) (λ k lt. reversed (get_or (x ∷ ks) k []) id Greater (above k (omega arith) lt)), sorted)
sorted-insert (x ∷ ks) (suc i) id sorted le below above = (
  all-insert (λ y. byte_cmp x y ≡ Less) ks i id sorted.0 (below 0 (omega arith)),
  sorted-insert ks i id sorted.1 (omega arith) (λ k lt. below (suc k) (omega arith)) (λ k h lt. above (suc k) (omega arith) (omega arith)),
)

map-insert : {A B : Type 0} (f : A → B) (xs : List A) (i : ℕ) (x : A) → map f (insert xs i x) ≡ insert (map f xs) i (f x)
map-insert f [] zero x = refl
map-insert f [] (suc i) x = refl
map-insert f (y ∷ xs) zero x = refl
map-insert f (y ∷ xs) (suc i) x = ap (λ t. f y ∷ t) (map-insert f xs i x)

-- the ids of these numbers stay when one more crash is there
ids-more : (ids : List (List ℕ)) (id : List ℕ) (numbers : List ℕ) → AllByRecursion (λ number. number < length ids) numbers
    → map (id_at (ids ++ id ∷ [])) numbers ≡ map (id_at ids) numbers
ids-more ids id [] all = refl
ids-more ids id (n ∷ ns) all =
    ap (λ u. u ∷ map (id_at (ids ++ id ∷ [])) ns) (get_or_append_left ids (id ∷ []) [] n all.0) ∙ ap (λ t. id_at ids n ∷ t) (ids-more ids id ns all.1)

module _ (ids : List (List ℕ)) (numbers : List ℕ) (id : List ℕ) where
  key_at : (k : ℕ) → k < length numbers → get_or (map (id_at ids) numbers) k [] ≡ id_at ids (get_or numbers k 0)
  key_at k lt = get_or-map (id_at ids) numbers k 0 [] lt

  rises : IsIndex ids numbers → (i j : ℕ) → i < j → j < length numbers → byte_cmp (id_at ids (get_or numbers i 0)) (id_at ids (get_or numbers j 0)) ≡ Less
  rises index i j lt in_numbers =
      ap (λ u. byte_cmp u (id_at ids (get_or numbers j 0))) (sym (key_at i (omega arith)))
      ∙ (ap (λ u. byte_cmp (get_or (map (id_at ids) numbers) i []) u) (sym (key_at j in_numbers))
      ∙ Less-from_sorted byte_cmp (map (id_at ids) numbers) i j [] index.rising lt (subst (λ u. j < u) (sym (length-map numbers (id_at ids))) in_numbers))

  -- up to a number whose id is below all are
  pub below_from : IsIndex ids numbers → (m : ℕ) → m < length numbers → byte_cmp (id_at ids (get_or numbers m 0)) id ≡ Less
      → (k : ℕ) → k < m + 1 → byte_cmp (id_at ids (get_or numbers k 0)) id ≡ Less
  below_from index m lt less k h =
      elim (eq-or-lt_of_le {n = k} {m = m} (omega arith)) [
        | inl e ↦ ap (λ u. byte_cmp (id_at ids (get_or numbers u 0)) id) e ∙ less
        | inr l ↦ nat_list_cmp_total.trans (id_at ids (get_or numbers k 0)) (id_at ids (get_or numbers m 0)) id (rises index k m l lt) less
      ]

  -- from a number whose id is above on all are
  pub above_from : IsIndex ids numbers → (m : ℕ) → m < length numbers → byte_cmp (id_at ids (get_or numbers m 0)) id ≡ Greater
      → (k : ℕ) → m ≤ k → k < length numbers → byte_cmp (id_at ids (get_or numbers k 0)) id ≡ Greater
  above_from index m lt greater k h h' =
      elim (eq-or-lt_of_le {n = m} {m = k} h) [
        | inl e ↦ ap (λ u. byte_cmp (id_at ids (get_or numbers u 0)) id) (sym e) ∙ greater
        | inr l ↦ reversed id (id_at ids (get_or numbers k 0)) Less
            (nat_list_cmp_total.trans id (id_at ids (get_or numbers m 0)) (id_at ids (get_or numbers k 0)) (reversed (id_at ids (get_or numbers m 0)) id Greater greater) (rises index m k l h'))
      ]

  -- what was found is the number of the id
  pub number_found : (i : ℕ) → IsIndex ids numbers → FindsNumber ids numbers id (Ok i) → slice_get ids (get_or numbers i 0) ≡ Some id
  number_found i index found =
      slice_get-get_or ids (get_or numbers i 0) [] (all_at (λ n. n < length ids) numbers i index.within found.0) ∙ ap (λ u. Some u) found.1

  no_less : byte_cmp id id ≡ Less → ⊥
  no_less less = let tied : byte_cmp id id ≡ Greater = reversed id id Less less in cc

  no_greater : byte_cmp id id ≡ Greater → ⊥
  no_greater greater = let tied : byte_cmp id id ≡ Less = reversed id id Greater greater in cc

  -- what has no place among the numbers is no crash's id
  pub number_missing : (i : ℕ) → IsIndex ids numbers → FindsNumber ids numbers id (Err i) → is_among ids id ≡ false
  number_missing i index gap =
      elim (is_among ids id) as (λ b. is_among ids id ≡ b → b ≡ false) [
        | false ↦ λ _. refl
        | true ↦ λ there.
            let place = among_place ids id there in
            let at = at_from_Contains numbers place.0 (index.whole place.0 place.1) in
            let same : id_at ids (get_or numbers at.0 0) ≡ id = ap (id_at ids) (at.2 0) ∙ place.2 in
            absurd (elim (cases_lt at.0 i) [
              | inl l ↦ no_less (subst (λ u. byte_cmp u id ≡ Less) same (gap.1 at.0 l))
              | inr g ↦ no_greater (subst (λ u. byte_cmp u id ≡ Greater) same (gap.2 at.0 g at.1))
            ])
      ] refl

  -- one more crash, whose number goes where its id stands
  pub index_push : (i : ℕ) → IsIndex ids numbers → FindsNumber ids numbers id (Err i) → IsIndex (ids ++ id ∷ []) (insert numbers i (length ids))
  index_push i index gap = record {
    within =
        let longer : length (ids ++ id ∷ []) ≡ length ids + 1 = length_push ids id in
        all-insert (λ n. n < length (ids ++ id ∷ [])) numbers i (length ids)
        (all-weaker (λ n. n < length ids) (λ n. n < length (ids ++ id ∷ [])) (λ n lt. omega (arith, longer)) numbers index.within) (omega (arith, longer));
    rising =
        let keys : map (id_at (ids ++ id ∷ [])) (insert numbers i (length ids)) ≡ insert (map (id_at ids) numbers) i id =
        map-insert (id_at (ids ++ id ∷ [])) numbers i (length ids)
        ∙ (ap (λ u. insert (map (id_at (ids ++ id ∷ [])) numbers) i u) (get_or_push ids id [] (length ids) refl)
        ∙ ap (λ ks. insert ks i id) (ids-more ids id numbers index.within)) in
        let long : length (map (id_at ids) numbers) ≡ length numbers = length-map numbers (id_at ids) in
        subst (λ ks. IsStrictlySortedBy byte_cmp ks) (sym keys)
        (sorted-insert (map (id_at ids) numbers) i id index.rising (subst (λ u. i ≤ u) (sym long) gap.0)
        (λ k lt. ap (λ u. byte_cmp u id) (key_at k (let le : i ≤ length numbers = gap.0 in omega arith)) ∙ gap.1 k lt)
        (λ k h lt. ap (λ u. byte_cmp u id) (key_at k (subst (λ u. k < u) long lt)) ∙ gap.2 k h (subst (λ u. k < u) long lt)));
    whole = λ number lt.
        Contains-permutation (length ids ∷ numbers) (insert numbers i (length ids)) number (IsPermutation-insert numbers i (length ids))
        (there number (let longer : length (ids ++ id ∷ []) ≡ length ids + 1 = length_push ids id in omega arith));
  }
    where
      there : (number : ℕ) → number < length ids + 1 → Contains (length ids ∷ numbers) number
      there number lt =
          elim (cases_lt number (length ids)) [
            | inl l ↦ Contains-append_right (length ids ∷ []) numbers number (index.whole number l)
            | inr g ↦ let same : length ids ≡ number = omega arith in subst (λ u. Contains (length ids ∷ numbers) u) same (Contains-get_or (length ids ∷ numbers) 0 0 (omega arith))
          ]

-- no crash
pub index-none : IsIndex [] []
unfolding IsStrictlySortedBy
index-none = record { within = tt; rising = tt; whole = λ number lt. absurd (omega arith) }
