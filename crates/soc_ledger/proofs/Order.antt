-- The queue of the due crashes in the order of the places since which they are due.
use Rattle.std.proofs.Common.{◌≡◌, ◌⊎◌, ℕ, zero, suc, ◌<◌, ◌≤◌, Bool, true, false, not, List, [], ◌∷◌, ◌++◌, length, get_or, filter, eqb, Option, Some, None, Ok, Err, Result, cond, sym, ap, subst, ◌∙◌, arith, refl, inl, inr}
use Rattle.std.specs.Prelude.{IsSome, OnSome, if◌then◌else◌, is_ok, remove}
use Rattle.std.specs.List.{AllByRecursion}
use Rattle.std.specs.List.Sorted.{IsBinarySearchResult, IsNonDecreasingBy}
use Rattle.std.specs.Ordering.{nat_cmp, ordering_index}
use Rattle.std.specs.declared.cmp.Ordering.{Ordering}
use Rattle.std.specs.declared.cmp.Ordering.TheVariants.{Less, Equal, Greater}
use Rattle.std.proofs.lemmas.Bool.{cases_lt, cases_order, eq-eqb, lt-ltb, le-ltb, ne_eqb}
use Rattle.soc_base.proofs.Folk.{all_get}
use Rattle.soc_ledger.specs.declared.due.Due.{Due}
use Rattle.soc_ledger.specs.inner.Tables.{AreBefore, IsInOrder}

abbrev is_other : ℕ → Due → Bool
is_other p d = not (eqb d.since p)

-- ---- how a place compares

index-lt : (a p : ℕ) → a < p → ordering_index (nat_cmp a p) ≡ 0
index-lt a p lt = ap (λ b. ordering_index (cond b Less (cond (eqb a p) Equal Greater))) (lt-ltb a p lt)

index-eq : (a p : ℕ) → a ≡ p → ordering_index (nat_cmp a p) ≡ 1
index-eq a p e =
    ap (λ b. ordering_index (cond b Less (cond (eqb a p) Equal Greater))) (le-ltb a p (omega arith)) ∙ ap (λ b. ordering_index (cond b Equal Greater)) (eq-eqb a p e)

index-gt : (a p : ℕ) → p < a → ordering_index (nat_cmp a p) ≡ 2
index-gt a p gt =
    ap (λ b. ordering_index (cond b Less (cond (eqb a p) Equal Greater))) (le-ltb a p (omega arith))
    ∙ ap (λ b. ordering_index (cond b Equal Greater)) (ne_eqb a p (λ e. absurd (omega arith)))

index_rises : (a b p : ℕ) → a ≤ b → ordering_index (nat_cmp a p) ≤ ordering_index (nat_cmp b p)
index_rises a b p le =
    elim (cases_order a p) [
      | inl e ↦ elim (cases_order b p) [
        | inl e' ↦ let x = index-eq a p e in let y = index-eq b p e' in omega arith
        | inr o ↦ elim o [ inl l ↦ absurd (omega arith) | inr g ↦ let x = index-eq a p e in let y = index-gt b p g in omega arith ]
      ]
      | inr o ↦ elim o [
        | inl l ↦ let x = index-lt a p l in omega arith
        | inr g ↦ let x = index-gt a p g in let y = index-gt b p (omega arith) in omega arith
      ]
    ]

equal_places : (a p : ℕ) → nat_cmp a p ≡ Equal → a ≡ p
equal_places a p is =
    elim (cases_order a p) [
      | inl e ↦ e
      | inr o ↦ elim o [
        | inl l ↦ let x = index-lt a p l in let y : ordering_index (nat_cmp a p) ≡ 1 = ap ordering_index is in absurd (omega arith)
        | inr g ↦ let x = index-gt a p g in let y : ordering_index (nat_cmp a p) ≡ 1 = ap ordering_index is in absurd (omega arith)
      ]
    ]

unequal : (a p : ℕ) (r : Ordering) → nat_cmp a p ≡ r → ordering_index r ≡ 0 ⊎ ordering_index r ≡ 2 → eqb a p ≡ false
unequal a p r is other =
    ne_eqb a p (λ e. let x = index-eq a p e in let y : ordering_index (nat_cmp a p) ≡ ordering_index r = ap ordering_index is in
    absurd (elim other [ inl h ↦ let z : ⊥ = omega arith in z | inr h ↦ let z : ⊥ = omega arith in z ]))

-- ---- lists

all_here : {A : Type 0} (P : A → Type 0) (xs : List A) → ((k : ℕ) (d : A) → k < length xs → P (get_or xs k d)) → AllByRecursion P xs
all_here P [] each = tt
all_here P (x ∷ xs) each = (each 0 x (omega arith), all_here P xs (λ k d lt. each (suc k) d (omega arith)))

rises : (ds : List Due) (i j : ℕ) (d : Due) → IsInOrder ds → i ≤ j → j < length ds → (get_or ds i d).since ≤ (get_or ds j d).since
rises [] i j d order le lt = absurd (omega arith)
rises (x ∷ ds) zero zero d order le lt = omega arith
rises (x ∷ ds) zero (suc j) d order le lt = let less : x.since < (get_or ds j d).since = all_get (λ y. x.since < y.since) ds j d order.0 (omega arith) in omega arith
rises (x ∷ ds) (suc i) zero d order le lt = absurd (omega arith)
rises (x ∷ ds) (suc i) (suc j) d order le lt = rises ds i j d order.1 (omega arith) (omega arith)

keep_all : (p : ℕ) (ds : List Due) → AllByRecursion (λ d. eqb d.since p ≡ false) ds → filter (is_other p) ds ≡ ds
keep_all p [] all = refl
keep_all p (d ∷ ds) all = ap (λ b. cond (not b) (d ∷ filter (is_other p) ds) (filter (is_other p) ds)) all.0 ∙ ap (λ t. d ∷ t) (keep_all p ds all.1)

later_differ : (p : ℕ) (ds : List Due) → AllByRecursion (λ d. p < d.since) ds → AllByRecursion (λ d. eqb d.since p ≡ false) ds
later_differ p [] all = tt
later_differ p (d ∷ ds) all = (ne_eqb d.since p (λ e. let lt : p < d.since = all.0 in absurd (omega arith)), later_differ p ds all.1)

-- the crash that is due since p is taken out
removed : (p : ℕ) (ds : List Due) (i : ℕ) (d : Due) → IsInOrder ds → i < length ds → (get_or ds i d).since ≡ p → remove ds i ≡ filter (is_other p) ds
removed p [] i d order lt is = absurd (omega arith)
removed p (x ∷ ds) zero d order lt is =
    sym (ap (λ b. cond (not b) (x ∷ filter (is_other p) ds) (filter (is_other p) ds)) (eq-eqb x.since p is)
    ∙ keep_all p ds (later_differ p ds (subst (λ u. AllByRecursion (λ y. u < y.since) ds) is order.0)))
removed p (x ∷ ds) (suc i) d order lt is =
    let less : x.since < (get_or ds i d).since = all_get (λ y. x.since < y.since) ds i d order.0 (omega arith) in
    ap (λ t. x ∷ t) (removed p ds i d order.1 (omega arith) is)
    ∙ sym (ap (λ b. cond (not b) (x ∷ filter (is_other p) ds) (filter (is_other p) ds)) (ne_eqb x.since p (λ e. absurd (omega arith))))

all_kept : (P : Due → Type 0) (p : Due → Bool) (ds : List Due) → AllByRecursion P ds → AllByRecursion P (filter p ds)
all_kept P p [] all = tt
all_kept P p (d ∷ ds) all =
    elim (p d) as (λ b. AllByRecursion P (cond b (d ∷ filter p ds) (filter p ds))) [ true ↦ (all.0, all_kept P p ds all.1) | false ↦ all_kept P p ds all.1 ]

pub order-filter : (p : Due → Bool) (ds : List Due) → IsInOrder ds → IsInOrder (filter p ds)
order-filter p [] order = tt
order-filter p (d ∷ ds) order =
    elim (p d) as (λ b. IsInOrder (cond b (d ∷ filter p ds) (filter p ds))) [
      | true ↦ (all_kept (λ y. d.since < y.since) p ds order.0, order-filter p ds order.1)
      | false ↦ order-filter p ds order.1
    ]

all-push : (P : Due → Type 0) (ds : List Due) (d : Due) → AllByRecursion P ds → P d → AllByRecursion P (ds ++ d ∷ [])
all-push P [] d all here = (here, tt)
all-push P (x ∷ ds) d all here = (all.0, all-push P ds d all.1 here)

order-push : (ds : List Due) (d : Due) → IsInOrder ds → AreBefore d.since ds → IsInOrder (ds ++ d ∷ [])
order-push [] d order before = (tt, tt)
order-push (x ∷ ds) d order before = (all-push (λ y. x.since < y.since) ds d order.0 before.0, order-push ds d order.1 before.1)

-- a push that succeeded
pub order-pushed : {A E : Type 0} (ds ds' : List Due) (d : Due) (r : Result A E) (u : A) → ds' ≡ (if is_ok r then ds ++ d ∷ [] else ds) → r ≡ Ok u
    → IsInOrder ds → AreBefore d.since ds → IsInOrder ds'
order-pushed ds ds' d r u is ok order before = subst IsInOrder (sym (is ∙ ap (λ q. if is_ok q then ds ++ d ∷ [] else ds) ok)) (order-push ds d order before)

-- ---- what a search finds

on_some : {A P : Type 0} (o : Option A) → IsSome o → OnSome o P → P
on_some None some on = absurd (let none : ⊥ = cc in none)
on_some (Some x) some on = on

module _ (p : ℕ) (ds : List Due) (order : IsInOrder ds) where
  searchable : IsNonDecreasingBy (λ d. ordering_index (nat_cmp d.since p)) ds
  searchable i j d le lt = index_rises (get_or ds i d).since (get_or ds j d).since p (rises ds i j d order le lt)

  pub found_due : (i : ℕ) → i < length ds → IsBinarySearchResult (λ d. nat_cmp d.since p) ds (Ok i) → remove ds i ≡ filter (is_other p) ds
  found_due i lt found = let d : Due = record { since = 0; number = 0 } in removed p ds i d order lt (equal_places (get_or ds i d).since p (found d))

  pub found_none : (i : ℕ) → i ≤ length ds → IsBinarySearchResult (λ d. nat_cmp d.since p) ds (Err i) → filter (is_other p) ds ≡ ds
  found_none i le parts =
      keep_all p ds (all_here (λ d. eqb d.since p ≡ false) ds (λ k d lt.
      elim (cases_lt k i) [
        | inl l ↦ unequal (get_or ds k d).since p Less ((parts searchable).0 k d (omega arith) l) (inl refl)
        | inr g ↦ unequal (get_or ds k d).since p Greater ((parts searchable).1 k d g lt) (inr refl)
      ]))

  -- what is left after what was found was taken out
  pub left : {A : Type 0} (i : ℕ) (r : Option A) (ds' : List Due) → i < length ds → IsBinarySearchResult (λ d. nat_cmp d.since p) ds (Ok i)
      → IsSome r → OnSome r (ds' ≡ remove ds i) → ds' ≡ filter (is_other p) ds
  left i r ds' lt found some on = on_some r some on ∙ found_due i lt found
