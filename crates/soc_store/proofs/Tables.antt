-- What holds of lists with one element a key, in rising order of keys.
use Rattle.std.proofs.Common.{◌≡◌, ℕ, zero, suc, ◌+◌, ◌<◌, ◌≤◌, List, [], ◌∷◌, ◌++◌, false, Option, None, Some, length, get_or, set, map, cond, sym, ap, subst, ◌∙◌, refl, arith}
use Rattle.std.specs.Prelude.{insert, remove}
use Rattle.std.specs.declared.cmp.Ordering.{Ordering}
use Rattle.std.specs.declared.cmp.Ordering.TheVariants.{Less, Equal, Greater}
use Rattle.std.specs.Ordering.{match_ordering, ordering_reverse, ordering_index, is_eq}
use Rattle.std.specs.Cmp.{IsTotalOrder}
use Rattle.std.specs.Option.{option_to_list, IfSome}
use Rattle.std.specs.List.{AllByRecursion, AllWithin, HoldsAt}
use Rattle.std.specs.List.Sorted.{IsNonDecreasingBy, IsPartitionPoint}
use Rattle.std.proofs.lemmas.List.{get_or_default}
use Rattle.std.proofs.lemmas.Cmp.{tied_back, alike_right, tied_itself}
use Rattle.soc_schema.specs.Tables.{alter, prune, Rising, at_key}

index_most : (r : Ordering) → ordering_index r ≤ 2
index_most Less = omega arith
index_most Equal = omega arith
index_most Greater = omega arith

index_least : (r : Ordering) → ordering_index r ≤ 0 → r ≡ Less
index_least Less h = refl
index_least Equal h = absurd (omega arith)
index_least Greater h = absurd (omega arith)

index_greatest : (r : Ordering) → 2 ≤ ordering_index r → r ≡ Greater
index_greatest Less h = absurd (omega arith)
index_greatest Equal h = absurd (omega arith)
index_greatest Greater h = refl

module _ {E K : Type 0} (key : E → K) {R : K → K → Ordering} (o : IsTotalOrder R) where
  turned : (x y : K) (r : Ordering) → R x y ≡ r → R y x ≡ ordering_reverse r
  turned x y r is = o.antisymm y x ∙ ap ordering_reverse is

  abbrev step : K → (Option E → E) → E → List E → Ordering → List E
  step k make e es r = match_ordering r (make None ∷ e ∷ es) (make (Some e) ∷ es) (e ∷ alter key R k make es)

  at : (k : K) (make : Option E → E) (e : E) (es : List E) (r : Ordering) → R k (key e) ≡ r → alter key R k make (e ∷ es) ≡ step k make e es r
  at k make e es r is = ap (step k make e es) is

  all_at : (P : E → Type 0) (es : List E) (i : ℕ) (w : E) → AllByRecursion P es → i < length es → P (get_or es i w)
  all_at P [] i w all lt = absurd (omega arith)
  all_at P (e ∷ es) zero w all lt = all.0
  all_at P (e ∷ es) (suc i) w all lt = all_at P es i w all.1 (omega arith)

  -- the element at k is replaced
  pub alter_found : (k : K) (make : Option E → E) (es : List E) (i : ℕ) (w : E) → Rising key R es → i < length es → w ≡ get_or es i w → R (key w) k ≡ Equal → alter key R k make es ≡ set es i (make (Some w))
  alter_found k make [] i w rising lt is eq = absurd (omega arith)
  alter_found k make (e ∷ es) zero w rising lt is eq =
      at k make e es Equal (tied_back o (key e) k (subst (λ u. R (key u) k ≡ Equal) is eq)) ∙ ap (λ u. make (Some u) ∷ es) (sym is)
  alter_found k make (e ∷ es) (suc i) w rising lt is eq =
      let less : R (key e) (key w) ≡ Less = subst (λ u. R (key e) (key u) ≡ Less) (sym is) (all_at (λ x. R (key e) (key x) ≡ Less) es i w rising.0 (omega arith)) in
      at k make e es Greater (turned (key e) k Less (sym (alike_right o (key w) k (key e) eq) ∙ less))
      ∙ ap (λ t. e ∷ t) (alter_found k make es i w rising.1 (omega arith) is eq)

  -- an element at k is put in where there is none
  pub alter_gap : (k : K) (make : Option E → E) (es : List E) (i : ℕ) → i ≤ length es → IsPartitionPoint (λ y. R (key y) k ≡ Less) (λ y. R (key y) k ≡ Greater) es i → alter key R k make es ≡ insert es i (make None)
  alter_gap k make [] zero le parts = refl
  alter_gap k make [] (suc i) le parts = absurd (omega arith)
  alter_gap k make (e ∷ es) zero le parts = at k make e es Less (turned (key e) k Greater (parts.1 0 e (omega arith) (omega arith)))
  alter_gap k make (e ∷ es) (suc i) le parts =
      at k make e es Greater (turned (key e) k Less (parts.0 0 e (omega arith) (omega arith)))
      ∙ ap (λ t. e ∷ t) (alter_gap k make es i (omega arith) ((λ j d h h'. parts.0 (suc j) d (omega arith) (omega arith)), (λ j d h h'. parts.1 (suc j) d (omega arith) (omega arith))))

  index_less : (x y k : K) → R x y ≡ Less → ordering_index (R x k) ≤ ordering_index (R y k)
  index_less x y k less =
      elim (R y k) as (λ r. R y k ≡ r → ordering_index (R x k) ≤ ordering_index r) [
        | Less ↦ λ is. let e : ordering_index (R x k) ≡ 0 = ap ordering_index (o.trans x y k less is) in omega arith
        | Equal ↦ λ is. let e : ordering_index (R x k) ≡ 0 = ap ordering_index (sym (alike_right o y k x is) ∙ less) in omega arith
        | Greater ↦ λ is. index_most (R x k)
      ] refl

  -- a binary search may look in a rising list
  pub rising_index : (k : K) (es : List E) → Rising key R es → IsNonDecreasingBy (λ y. ordering_index (R (key y) k)) es
  rising_index k [] rising i j d le lt = absurd (omega arith)
  rising_index k (e ∷ es) rising zero zero d le lt = omega arith
  rising_index k (e ∷ es) rising zero (suc j) d le lt =
      index_less (key e) (key (get_or es j d)) k (all_at (λ x. R (key e) (key x) ≡ Less) es j d rising.0 (omega arith))
  rising_index k (e ∷ es) rising (suc i) zero d le lt = absurd (omega arith)
  rising_index k (e ∷ es) rising (suc i) (suc j) d le lt = rising_index k es rising.1 i j d (omega arith) (omega arith)

  -- up to an element below k all are
  pub below_from : (k : K) (es : List E) (m : ℕ) (w : E) → Rising key R es → m < length es → R (key (get_or es m w)) k ≡ Less → AllWithin (λ y. R (key y) k ≡ Less) es 0 (m + 1)
  below_from k es m w rising lt less j d h h' =
      let here : get_or es m d ≡ get_or es m w = get_or_default es m d w lt in
      let zero_there : ordering_index (R (key (get_or es m d)) k) ≡ 0 = ap (λ u. ordering_index (R (key u) k)) here ∙ ap ordering_index less in
      let no_more = rising_index k es rising j m d (omega arith) lt in
      index_least (R (key (get_or es j d)) k) (omega arith)

  -- from an element above k on all are
  pub above_from : (k : K) (es : List E) (m : ℕ) (w : E) → Rising key R es → m < length es → R (key (get_or es m w)) k ≡ Greater → AllWithin (λ y. R (key y) k ≡ Greater) es m (length es)
  above_from k es m w rising lt greater j d h h' =
      let here : get_or es m d ≡ get_or es m w = get_or_default es m d w lt in
      let two_there : ordering_index (R (key (get_or es m d)) k) ≡ 2 = ap (λ u. ordering_index (R (key u) k)) here ∙ ap ordering_index greater in
      let no_less = rising_index k es rising m j d h h' in
      index_greatest (R (key (get_or es j d)) k) (omega arith)

  pub equal_at : (k : K) (es : List E) (m : ℕ) (w : E) → m < length es → w ≡ get_or es m w → R (key w) k ≡ Equal → HoldsAt (λ y. R (key y) k ≡ Equal) es m
  equal_at k es m w lt is equal d = subst (λ u. R (key u) k ≡ Equal) (is ∙ get_or_default es m w d lt) equal

  -- a key below all is not there
  pub at_key-below : (k : K) (es : List E) → AllByRecursion (λ x. R k (key x) ≡ Less) es → at_key key R k es ≡ None
  at_key-below k [] all = refl
  at_key-below k (e ∷ es) all = ap (λ r. cond (is_eq r) (Some e) (at_key key R k es)) all.0 ∙ at_key-below k es all.1

  pub at_key-found : (k : K) (es : List E) (i : ℕ) (w : E) → Rising key R es → i < length es → w ≡ get_or es i w → R (key w) k ≡ Equal → at_key key R k es ≡ Some w
  at_key-found k [] i w rising lt is eq = absurd (omega arith)
  at_key-found k (e ∷ es) zero w rising lt is eq =
      ap (λ r. cond (is_eq r) (Some e) (at_key key R k es)) (tied_back o (key e) k (subst (λ u. R (key u) k ≡ Equal) is eq)) ∙ ap (λ u. Some u) (sym is)
  at_key-found k (e ∷ es) (suc i) w rising lt is eq =
      let less : R (key e) (key w) ≡ Less = subst (λ u. R (key e) (key u) ≡ Less) (sym is) (all_at (λ x. R (key e) (key x) ≡ Less) es i w rising.0 (omega arith)) in
      ap (λ r. cond (is_eq r) (Some e) (at_key key R k es)) (turned (key e) k Less (sym (alike_right o (key w) k (key e) eq) ∙ less))
      ∙ at_key-found k es i w rising.1 (omega arith) is eq

  pub at_key-gap : (k : K) (es : List E) (i : ℕ) → i ≤ length es → IsPartitionPoint (λ y. R (key y) k ≡ Less) (λ y. R (key y) k ≡ Greater) es i → at_key key R k es ≡ None
  at_key-gap k [] i le parts = refl
  at_key-gap k (e ∷ es) zero le parts =
      ap (λ r. cond (is_eq r) (Some e) (at_key key R k es)) (turned (key e) k Greater (parts.1 0 e (omega arith) (omega arith)))
      ∙ at_key-gap k es zero (omega arith) ((λ j d h h'. absurd (omega arith)), (λ j d h h'. parts.1 (suc j) d (omega arith) (omega arith)))
  at_key-gap k (e ∷ es) (suc i) le parts =
      ap (λ r. cond (is_eq r) (Some e) (at_key key R k es)) (turned (key e) k Less (parts.0 0 e (omega arith) (omega arith)))
      ∙ at_key-gap k es i (omega arith) ((λ j d h h'. parts.0 (suc j) d (omega arith) (omega arith)), (λ j d h h'. parts.1 (suc j) d (omega arith) (omega arith)))

  module _ (k : K) (make : Option E → E) (keeps : (e : Option E) → key (make e) ≡ k) where
    all_altered : (P : K → Type 0) (es : List E) → P k → AllByRecursion (λ x. P (key x)) es → AllByRecursion (λ x. P (key x)) (alter key R k make es)
    all_altered P [] here all = (subst P (sym (keeps None)) here, tt)
    all_altered P (e ∷ es) here all =
        elim (R k (key e)) as (λ r. AllByRecursion (λ x. P (key x)) (step k make e es r)) [
          | Less ↦ (subst P (sym (keeps None)) here, all)
          | Equal ↦ (subst P (sym (keeps (Some e))) here, all.1)
          | Greater ↦ (all.0, all_altered P es here all.1)
        ]

    all_less : (x y : K) (es : List E) → R x y ≡ Less → AllByRecursion (λ z. R y (key z) ≡ Less) es → AllByRecursion (λ z. R x (key z) ≡ Less) es
    all_less x y [] less all = tt
    all_less x y (e ∷ es) less all = (o.trans x y (key e) less all.0, all_less x y es less all.1)

    all_tied : (x y : K) (es : List E) → R x y ≡ Equal → AllByRecursion (λ z. R y (key z) ≡ Less) es → AllByRecursion (λ z. R x (key z) ≡ Less) es
    all_tied x y [] tied all = tt
    all_tied x y (e ∷ es) tied all = (o.congr x y (key e) tied ∙ all.0, all_tied x y es tied all.1)

    -- keys that rise still rise
    pub rising_alter : (es : List E) → Rising key R es → Rising key R (alter key R k make es)
    rising_alter [] rising = (tt, tt)
    rising_alter (e ∷ es) rising =
        elim (R k (key e)) as (λ r. R k (key e) ≡ r → Rising key R (step k make e es r)) [
          | Less ↦ λ is. let less : R (key (make None)) (key e) ≡ Less = ap (λ u. R u (key e)) (keeps None) ∙ is in ((less, all_less _ (key e) es less rising.0), rising)
          | Equal ↦ λ is. let tied : R (key (make (Some e))) (key e) ≡ Equal = ap (λ u. R u (key e)) (keeps (Some e)) ∙ is in (all_tied _ (key e) es tied rising.0, rising.1)
          | Greater ↦ λ is. (all_altered (λ y. R (key e) y ≡ Less) es (turned k (key e) Greater is) rising.0, rising_alter es rising.1)
        ] refl

    -- the keys with one more
    pub keys_alter : (es : List E) → map key (alter key R k make es) ≡ alter (λ w. w) R k (λ _. k) (map key es)
    keys_alter [] = ap (λ u. u ∷ []) (keeps None)
    keys_alter (e ∷ es) =
        elim (R k (key e)) as (λ r. map key (step k make e es r) ≡ match_ordering r (k ∷ key e ∷ map key es) (k ∷ map key es) (key e ∷ alter (λ w. w) R k (λ _. k) (map key es))) [
          | Less ↦ ap (λ u. u ∷ key e ∷ map key es) (keeps None)
          | Equal ↦ ap (λ u. u ∷ map key es) (keeps (Some e))
          | Greater ↦ ap (λ t. key e ∷ t) (keys_alter es)
        ]

    itself : (e : Option E) → R k (key (make e)) ≡ Equal
    itself e = ap (R k) (keeps e) ∙ tied_itself o k

    -- what was altered is found
    pub at_key-same : (es : List E) → Rising key R es → at_key key R k (alter key R k make es) ≡ Some (make (at_key key R k es))
    at_key-same [] rising = ap (λ r. cond (is_eq r) (Some (make None)) None) (itself None)
    at_key-same (e ∷ es) rising =
        elim (R k (key e)) as (λ r. R k (key e) ≡ r → at_key key R k (step k make e es r) ≡ Some (make (cond (is_eq r) (Some e) (at_key key R k es)))) [
          | Less ↦ λ is. ap (λ r. cond (is_eq r) (Some (make None)) (at_key key R k (e ∷ es))) (itself None)
              ∙ ap (λ u. Some (make u)) (sym (at_key-below k es (all_less k (key e) es is rising.0)))
          | Equal ↦ λ is. ap (λ r. cond (is_eq r) (Some (make (Some e))) (at_key key R k es)) (itself (Some e))
          | Greater ↦ λ is. ap (λ r. cond (is_eq r) (Some e) (at_key key R k (alter key R k make es))) is ∙ at_key-same es rising.1
        ] refl

    -- and nothing else is changed
    pub at_key-other : (q : K) (es : List E) → is_eq (R q k) ≡ false → at_key key R q (alter key R k make es) ≡ at_key key R q es
    at_key-other q [] differs = ap (λ b. cond b (Some (make None)) None) (ap (λ u. is_eq (R q u)) (keeps None) ∙ differs)
    at_key-other q (e ∷ es) differs =
        elim (R k (key e)) as (λ r. R k (key e) ≡ r → at_key key R q (step k make e es r) ≡ at_key key R q (e ∷ es)) [
          | Less ↦ λ is. ap (λ b. cond b (Some (make None)) (at_key key R q (e ∷ es))) (ap (λ u. is_eq (R q u)) (keeps None) ∙ differs)
          | Equal ↦ λ is. ap (λ b. cond b (Some (make (Some e))) (at_key key R q es)) (ap (λ u. is_eq (R q u)) (keeps (Some e)) ∙ differs)
              ∙ sym (ap (λ b. cond b (Some e) (at_key key R q es)) (ap is_eq (sym (alike_right o k (key e) q is)) ∙ differs))
          | Greater ↦ λ is. ap (λ t. cond (is_eq (R q (key e))) (Some e) t) (at_key-other q es differs)
        ] refl

    -- what shrinks by what was made is as it was
    pub prune-alter : (shrink : E → Option E) → shrink (make None) ≡ None → (es : List E) → AllByRecursion (λ e. R k (key e) ≡ Equal → shrink (make (Some e)) ≡ Some e) es → prune key R k shrink (alter key R k make es) ≡ es
    prune-alter shrink gone [] back =
        ap (λ r. match_ordering r (make None ∷ []) (option_to_list (shrink (make None)) ++ []) (make None ∷ [])) (itself None) ∙ ap (λ u. option_to_list u ++ []) gone
    prune-alter shrink gone (e ∷ es) back =
        elim (R k (key e)) as (λ r. R k (key e) ≡ r → prune key R k shrink (step k make e es r) ≡ e ∷ es) [
          | Less ↦ λ is. ap (λ r. match_ordering r (make None ∷ e ∷ es) (option_to_list (shrink (make None)) ++ (e ∷ es)) (make None ∷ prune key R k shrink (e ∷ es))) (itself None) ∙ ap (λ u. option_to_list u ++ (e ∷ es)) gone
          | Equal ↦ λ is. ap (λ r. match_ordering r (make (Some e) ∷ es) (option_to_list (shrink (make (Some e))) ++ es) (make (Some e) ∷ prune key R k shrink es)) (itself (Some e)) ∙ ap (λ u. option_to_list u ++ es) (back.0 is)
          | Greater ↦ λ is. ap (λ r. match_ordering r (e ∷ alter key R k make es) (option_to_list (shrink e) ++ alter key R k make es) (e ∷ prune key R k shrink (alter key R k make es))) is ∙ ap (λ t. e ∷ t) (prune-alter shrink gone es back.1)
        ] refl

    -- each element of an altered list is one of it or is made of one
    pub all_made : (P : E → Type 0) (es : List E) → P (make None) → ((e : E) → P e → P (make (Some e))) → AllByRecursion P es → AllByRecursion P (alter key R k make es)
    all_made P [] fresh more all = (fresh, tt)
    all_made P (e ∷ es) fresh more all =
        elim (R k (key e)) as (λ r. AllByRecursion P (step k make e es r)) [
          | Less ↦ (fresh, all)
          | Equal ↦ (more e all.0, all.1)
          | Greater ↦ (all.0, all_made P es fresh more all.1)
        ]

  -- the element at k shrinks, or goes
  pub prune_shrinks : (k : K) (shrink : E → Option E) (es : List E) (i : ℕ) (w x : E) → Rising key R es → i < length es → w ≡ get_or es i w → R (key w) k ≡ Equal → shrink w ≡ Some x → prune key R k shrink es ≡ set es i x
  prune_shrinks k shrink [] i w x rising lt is eq gives = absurd (omega arith)
  prune_shrinks k shrink (e ∷ es) zero w x rising lt is eq gives =
      ap (λ r. match_ordering r (e ∷ es) (option_to_list (shrink e) ++ es) (e ∷ prune key R k shrink es)) (tied_back o (key e) k (subst (λ u. R (key u) k ≡ Equal) is eq))
      ∙ ap (λ u. option_to_list (shrink u) ++ es) (sym is) ∙ ap (λ u. option_to_list u ++ es) gives
  prune_shrinks k shrink (e ∷ es) (suc i) w x rising lt is eq gives =
      let less : R (key e) (key w) ≡ Less = subst (λ u. R (key e) (key u) ≡ Less) (sym is) (all_at (λ y. R (key e) (key y) ≡ Less) es i w rising.0 (omega arith)) in
      ap (λ r. match_ordering r (e ∷ es) (option_to_list (shrink e) ++ es) (e ∷ prune key R k shrink es)) (turned (key e) k Less (sym (alike_right o (key w) k (key e) eq) ∙ less))
      ∙ ap (λ t. e ∷ t) (prune_shrinks k shrink es i w x rising.1 (omega arith) is eq gives)

  pub prune_goes : (k : K) (shrink : E → Option E) (es : List E) (i : ℕ) (w : E) → Rising key R es → i < length es → w ≡ get_or es i w → R (key w) k ≡ Equal → shrink w ≡ None → prune key R k shrink es ≡ remove es i
  prune_goes k shrink [] i w rising lt is eq gives = absurd (omega arith)
  prune_goes k shrink (e ∷ es) zero w rising lt is eq gives =
      ap (λ r. match_ordering r (e ∷ es) (option_to_list (shrink e) ++ es) (e ∷ prune key R k shrink es)) (tied_back o (key e) k (subst (λ u. R (key u) k ≡ Equal) is eq))
      ∙ ap (λ u. option_to_list (shrink u) ++ es) (sym is) ∙ ap (λ u. option_to_list u ++ es) gives
  prune_goes k shrink (e ∷ es) (suc i) w rising lt is eq gives =
      let less : R (key e) (key w) ≡ Less = subst (λ u. R (key e) (key u) ≡ Less) (sym is) (all_at (λ y. R (key e) (key y) ≡ Less) es i w rising.0 (omega arith)) in
      ap (λ r. match_ordering r (e ∷ es) (option_to_list (shrink e) ++ es) (e ∷ prune key R k shrink es)) (turned (key e) k Less (sym (alike_right o (key w) k (key e) eq) ∙ less))
      ∙ ap (λ t. e ∷ t) (prune_goes k shrink es i w rising.1 (omega arith) is eq gives)

  pub prune_gap : (k : K) (shrink : E → Option E) (es : List E) (i : ℕ) → i ≤ length es → IsPartitionPoint (λ y. R (key y) k ≡ Less) (λ y. R (key y) k ≡ Greater) es i → prune key R k shrink es ≡ es
  prune_gap k shrink [] i le parts = refl
  prune_gap k shrink (e ∷ es) zero le parts = ap (λ r. match_ordering r (e ∷ es) (option_to_list (shrink e) ++ es) (e ∷ prune key R k shrink es)) (turned (key e) k Greater (parts.1 0 e (omega arith) (omega arith)))
  prune_gap k shrink (e ∷ es) (suc i) le parts =
      ap (λ r. match_ordering r (e ∷ es) (option_to_list (shrink e) ++ es) (e ∷ prune key R k shrink es)) (turned (key e) k Less (parts.0 0 e (omega arith) (omega arith)))
      ∙ ap (λ t. e ∷ t) (prune_gap k shrink es i (omega arith) ((λ j d h h'. parts.0 (suc j) d (omega arith) (omega arith)), (λ j d h h'. parts.1 (suc j) d (omega arith) (omega arith))))

  module _ (k : K) (shrink : E → Option E) (same : (e : E) → IfSome (shrink e) (λ x. key x ≡ key e)) where
    head_left : (P : K → Type 0) (e : E) (m : Option E) (es : List E) → IfSome m (λ x. key x ≡ key e) → P (key e) → AllByRecursion (λ x. P (key x)) es → AllByRecursion (λ x. P (key x)) (option_to_list m ++ es)
    head_left P e None es like here all = all
    head_left P e (Some x) es like here all = (subst P (sym like) here, all)

    all_pruned : (P : K → Type 0) (es : List E) → AllByRecursion (λ x. P (key x)) es → AllByRecursion (λ x. P (key x)) (prune key R k shrink es)
    all_pruned P [] all = tt
    all_pruned P (e ∷ es) all =
        elim (R k (key e)) as (λ r. AllByRecursion (λ x. P (key x)) (match_ordering r (e ∷ es) (option_to_list (shrink e) ++ es) (e ∷ prune key R k shrink es))) [
          | Less ↦ all
          | Equal ↦ head_left P e (shrink e) es (same e) all.0 all.1
          | Greater ↦ (all.0, all_pruned P es all.1)
        ]

    rising_left : (e : E) (m : Option E) (es : List E) → IfSome m (λ x. key x ≡ key e) → Rising key R (e ∷ es) → Rising key R (option_to_list m ++ es)
    rising_left e None es like rising = rising.1
    rising_left e (Some x) es like rising = (subst (λ u. AllByRecursion (λ y. R u (key y) ≡ Less) es) (sym like) rising.0, rising.1)

    pub rising_prune : (es : List E) → Rising key R es → Rising key R (prune key R k shrink es)
    rising_prune [] rising = tt
    rising_prune (e ∷ es) rising =
        elim (R k (key e)) as (λ r. Rising key R (match_ordering r (e ∷ es) (option_to_list (shrink e) ++ es) (e ∷ prune key R k shrink es))) [
          | Less ↦ rising
          | Equal ↦ rising_left e (shrink e) es (same e) rising
          | Greater ↦ (all_pruned (λ y. R (key e) y ≡ Less) es rising.0, rising_prune es rising.1)
        ]

  -- two alterations at keys of their own, or that agree, may trade places
  module _ (k : K) (g : Option E → E) (gk : (e : Option E) → key (g e) ≡ k) (l : K) (h : Option E → E) (hl : (e : Option E) → key (h e) ≡ l) where
    heads : (r : Ordering) (xs : List E) → R k l ≡ r → alter key R k g xs ≡ g None ∷ xs → alter key R l h xs ≡ h None ∷ xs → (r ≡ Equal → (e : Option E) → g (Some (h e)) ≡ h (Some (g e))) → alter key R k g (h None ∷ xs) ≡ alter key R l h (g None ∷ xs)
    heads Less xs is p q same =
        at k g (h None) xs Less (ap (R k) (hl None) ∙ is)
        ∙ sym (at l h (g None) xs Greater (ap (R l) (gk None) ∙ turned k l Less is) ∙ ap (λ t. g None ∷ t) q)
    heads Equal xs is p q same =
        at k g (h None) xs Equal (ap (R k) (hl None) ∙ is)
        ∙ ap (λ u. u ∷ xs) (same refl None)
        ∙ sym (at l h (g None) xs Equal (ap (R l) (gk None) ∙ turned k l Equal is))
    heads Greater xs is p q same =
        at k g (h None) xs Greater (ap (R k) (hl None) ∙ is) ∙ ap (λ t. h None ∷ t) p
        ∙ sym (at l h (g None) xs Less (ap (R l) (gk None) ∙ turned k l Greater is))

    less_equal : (e : E) (es : List E) → R k (key e) ≡ Less → R l (key e) ≡ Equal → alter key R k g (h (Some e) ∷ es) ≡ alter key R l h (g None ∷ e ∷ es)
    less_equal e es p q =
        let less : R k l ≡ Less = alike_right o l (key e) k q ∙ p in
        at k g (h (Some e)) es Less (ap (R k) (hl (Some e)) ∙ less)
        ∙ sym (at l h (g None) (e ∷ es) Greater (ap (R l) (gk None) ∙ turned k l Less less) ∙ ap (λ t. g None ∷ t) (at l h e es Equal q))

    less_greater : (e : E) (es : List E) → R k (key e) ≡ Less → R l (key e) ≡ Greater → alter key R k g (e ∷ alter key R l h es) ≡ alter key R l h (g None ∷ e ∷ es)
    less_greater e es p q =
        let less : R k l ≡ Less = o.trans k (key e) l p (turned l (key e) Greater q) in
        at k g e (alter key R l h es) Less p
        ∙ sym (at l h (g None) (e ∷ es) Greater (ap (R l) (gk None) ∙ turned k l Less less) ∙ ap (λ t. g None ∷ t) (at l h e es Greater q))

    equal_greater : (e : E) (es : List E) → R k (key e) ≡ Equal → R l (key e) ≡ Greater → alter key R k g (e ∷ alter key R l h es) ≡ alter key R l h (g (Some e) ∷ es)
    equal_greater e es p q =
        at k g e (alter key R l h es) Equal p
        ∙ sym (at l h (g (Some e)) es Greater (ap (R l) (gk (Some e)) ∙ alike_right o k (key e) l p ∙ q))

    equals : (e : E) (es : List E) → R k (key e) ≡ Equal → R l (key e) ≡ Equal → (R k l ≡ Equal → (e : Option E) → g (Some (h e)) ≡ h (Some (g e))) → alter key R k g (h (Some e) ∷ es) ≡ alter key R l h (g (Some e) ∷ es)
    equals e es p q same =
        let tied : R k l ≡ Equal = alike_right o l (key e) k q ∙ p in
        at k g (h (Some e)) es Equal (ap (R k) (hl (Some e)) ∙ tied)
        ∙ ap (λ u. u ∷ es) (same tied (Some e))
        ∙ sym (at l h (g (Some e)) es Equal (ap (R l) (gk (Some e)) ∙ turned k l Equal tied))

  pub alter_commutes : (k : K) (g : Option E → E) → ((e : Option E) → key (g e) ≡ k) → (l : K) (h : Option E → E) → ((e : Option E) → key (h e) ≡ l) → (R k l ≡ Equal → (e : Option E) → g (Some (h e)) ≡ h (Some (g e)))
      → (es : List E) → alter key R k g (alter key R l h es) ≡ alter key R l h (alter key R k g es)
  alter_commutes k g gk l h hl same [] = heads k g gk l h hl (R k l) [] refl refl refl same
  alter_commutes k g gk l h hl same (e ∷ es) =
      elim (R k (key e)) as (λ r. R k (key e) ≡ r → alter key R k g (alter key R l h (e ∷ es)) ≡ alter key R l h (step k g e es r)) [
        | Less ↦ λ p. elim (R l (key e)) as (λ s. R l (key e) ≡ s → alter key R k g (step l h e es s) ≡ alter key R l h (g None ∷ e ∷ es)) [
          | Less ↦ λ q. heads k g gk l h hl (R k l) (e ∷ es) refl (at k g e es Less p) (at l h e es Less q) same
          | Equal ↦ λ q. less_equal k g gk l h hl e es p q
          | Greater ↦ λ q. less_greater k g gk l h hl e es p q
        ] refl
        | Equal ↦ λ p. elim (R l (key e)) as (λ s. R l (key e) ≡ s → alter key R k g (step l h e es s) ≡ alter key R l h (g (Some e) ∷ es)) [
          | Less ↦ λ q. sym (less_equal l h hl k g gk e es q p)
          | Equal ↦ λ q. equals k g gk l h hl e es p q same
          | Greater ↦ λ q. equal_greater k g gk l h hl e es p q
        ] refl
        | Greater ↦ λ p. elim (R l (key e)) as (λ s. R l (key e) ≡ s → alter key R k g (step l h e es s) ≡ alter key R l h (e ∷ alter key R k g es)) [
          | Less ↦ λ q. sym (less_greater l h hl k g gk e es q p)
          | Equal ↦ λ q. sym (equal_greater l h hl k g gk e es q p)
          | Greater ↦ λ q. at k g e (alter key R l h es) Greater p ∙ ap (λ t. e ∷ t) (alter_commutes k g gk l h hl same es) ∙ sym (at l h e (alter key R k g es) Greater q)
        ] refl
      ] refl
