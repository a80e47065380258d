-- Lists in blocks, and what is altered in one of them.
use Rattle.std.proofs.Common.{◌≡◌, ℕ, zero, suc, ◌<◌, ◌≤◌, List, [], ◌∷◌, ◌++◌, Option, None, Some, length, get_or, set, map, take, drop, cond, sym, ap, subst, ◌∙◌, refl, arith, append_assoc}
use Rattle.std.specs.Prelude.{slice_get, insert, remove}
use Rattle.std.specs.declared.cmp.Ordering.{Ordering}
use Rattle.std.specs.declared.cmp.Ordering.TheVariants.{Less, Equal, Greater}
use Rattle.std.specs.Ordering.{match_ordering, ordering_reverse, is_eq}
use Rattle.std.specs.Cmp.{IsTotalOrder}
use Rattle.std.specs.Option.{option_to_list}
use Rattle.std.specs.List.{AllByRecursion}
use Rattle.soc_schema.specs.Tables.{alter, prune, Rising, at_key}
use Rattle.soc_store.specs.inner.Parts.{joined}
use Rattle.soc_store.proofs.Tables.{at_key-below}

module _ {E : Type 0} where
  -- around one block
  pub around : (bs : List (List E)) (k : ℕ) (b : List E) → k < length bs → joined (set bs k b) ≡ joined (take k bs) ++ (b ++ joined (drop (suc k) bs))
  around [] k b lt = absurd (omega arith)
  around (a ∷ cs) zero b lt = refl
  around (a ∷ cs) (suc k) b lt = ap (λ l. a ++ l) (around cs k b (omega arith)) ∙ sym (append_assoc a (joined (take k cs)) (b ++ joined (drop (suc k) cs)))

  pub itself : (bs : List (List E)) (k : ℕ) (b : List E) → k < length bs → b ≡ get_or bs k b → set bs k b ≡ bs
  itself [] k b lt is = absurd (omega arith)
  itself (a ∷ cs) zero b lt is = ap (λ z. z ∷ cs) is
  itself (a ∷ cs) (suc k) b lt is = ap (λ t. a ∷ t) (itself cs k b (omega arith) is)

  -- the lists are those before a block, the block and those behind it
  pub apart : (bs : List (List E)) (k : ℕ) (b : List E) → k < length bs → b ≡ get_or bs k b → joined bs ≡ joined (take k bs) ++ (b ++ joined (drop (suc k) bs))
  apart bs k b lt is = ap joined (sym (itself bs k b lt is)) ∙ around bs k b lt

  -- a block is cut in two
  pub joined_cut : (bs : List (List E)) (k : ℕ) (front back b : List E) → k < length bs → b ≡ get_or bs k b → b ≡ front ++ back → joined (set (set (insert bs (suc k) []) k front) (suc k) back) ≡ joined bs
  joined_cut [] k front back b lt is halves = absurd (omega arith)
  joined_cut (a ∷ cs) zero front back b lt is halves = sym (append_assoc front back (joined cs)) ∙ ap (λ l. l ++ joined cs) (sym halves ∙ is)
  joined_cut (a ∷ cs) (suc k) front back b lt is halves = ap (λ l. a ++ l) (joined_cut cs k front back b (omega arith) is halves)

  -- an empty block may be put in or go
  pub joined_more : (bs : List (List E)) (k : ℕ) → k ≤ length bs → joined (insert bs k []) ≡ joined bs
  joined_more [] zero le = refl
  joined_more [] (suc k) le = absurd (omega arith)
  joined_more (a ∷ cs) zero le = refl
  joined_more (a ∷ cs) (suc k) le = ap (λ l. a ++ l) (joined_more cs k (omega arith))

  pub joined_less : (bs : List (List E)) (k : ℕ) → k < length bs → get_or bs k [] ≡ [] → joined (remove bs k) ≡ joined bs
  joined_less [] k lt is = absurd (omega arith)
  joined_less (a ∷ cs) zero lt is = ap (λ l. l ++ joined cs) (sym is)
  joined_less (a ∷ cs) (suc k) lt is = ap (λ l. a ++ l) (joined_less cs k (omega arith) is)

  pub joined-append : (cs bs : List (List E)) → joined (cs ++ bs) ≡ joined cs ++ joined bs
  joined-append [] bs = refl
  joined-append (a ∷ cs) bs = ap (λ l. a ++ l) (joined-append cs bs) ∙ sym (append_assoc a (joined cs) (joined bs))

  pub all_front : (P : E → Type 0) (xs ys : List E) → AllByRecursion P (xs ++ ys) → AllByRecursion P xs
  all_front P [] ys all = tt
  all_front P (x ∷ xs) ys all = (all.0, all_front P xs ys all.1)

  pub all_back : (P : E → Type 0) (xs ys : List E) → AllByRecursion P (xs ++ ys) → AllByRecursion P ys
  all_back P [] ys all = all
  all_back P (x ∷ xs) ys all = all_back P xs ys all.1

module _ {E K : Type 0} (key : E → K) {R : K → K → Ordering} (o : IsTotalOrder R) where
  -- what is altered at a key stands behind the lower ones
  pub alter_behind : (k : K) (make : Option E → E) (xs ys : List E) → AllByRecursion (λ x. R k (key x) ≡ Greater) xs → alter key R k make (xs ++ ys) ≡ xs ++ alter key R k make ys
  alter_behind k make [] ys all = refl
  alter_behind k make (x ∷ xs) ys all =
      ap (λ r. match_ordering r (make None ∷ x ∷ (xs ++ ys)) (make (Some x) ∷ (xs ++ ys)) (x ∷ alter key R k make (xs ++ ys))) all.0 ∙ ap (λ t. x ∷ t) (alter_behind k make xs ys all.1)

  -- and before the higher ones
  pub alter_ahead : (k : K) (make : Option E → E) (xs ys : List E) → AllByRecursion (λ x. R k (key x) ≡ Less) ys → alter key R k make (xs ++ ys) ≡ alter key R k make xs ++ ys
  alter_ahead k make [] [] all = refl
  alter_ahead k make [] (y ∷ ys) all = ap (λ r. match_ordering r (make None ∷ y ∷ ys) (make (Some y) ∷ ys) (y ∷ alter key R k make ys)) all.0
  alter_ahead k make (x ∷ xs) ys all =
      elim (R k (key x)) as (λ r. match_ordering r (make None ∷ x ∷ (xs ++ ys)) (make (Some x) ∷ (xs ++ ys)) (x ∷ alter key R k make (xs ++ ys)) ≡ match_ordering r (make None ∷ x ∷ xs) (make (Some x) ∷ xs) (x ∷ alter key R k make xs) ++ ys) [
        | Less ↦ refl
        | Equal ↦ refl
        | Greater ↦ ap (λ t. x ∷ t) (alter_ahead k make xs ys all)
      ]

  pub prune_behind : (k : K) (shrink : E → Option E) (xs ys : List E) → AllByRecursion (λ x. R k (key x) ≡ Greater) xs → prune key R k shrink (xs ++ ys) ≡ xs ++ prune key R k shrink ys
  prune_behind k shrink [] ys all = refl
  prune_behind k shrink (x ∷ xs) ys all =
      ap (λ r. match_ordering r (x ∷ (xs ++ ys)) (option_to_list (shrink x) ++ (xs ++ ys)) (x ∷ prune key R k shrink (xs ++ ys))) all.0 ∙ ap (λ t. x ∷ t) (prune_behind k shrink xs ys all.1)

  pub prune_ahead : (k : K) (shrink : E → Option E) (xs ys : List E) → AllByRecursion (λ x. R k (key x) ≡ Less) ys → prune key R k shrink (xs ++ ys) ≡ prune key R k shrink xs ++ ys
  prune_ahead k shrink [] [] all = refl
  prune_ahead k shrink [] (y ∷ ys) all = ap (λ r. match_ordering r (y ∷ ys) (option_to_list (shrink y) ++ ys) (y ∷ prune key R k shrink ys)) all.0
  prune_ahead k shrink (x ∷ xs) ys all =
      elim (R k (key x)) as (λ r. match_ordering r (x ∷ (xs ++ ys)) (option_to_list (shrink x) ++ (xs ++ ys)) (x ∷ prune key R k shrink (xs ++ ys)) ≡ match_ordering r (x ∷ xs) (option_to_list (shrink x) ++ xs) (x ∷ prune key R k shrink xs) ++ ys) [
        | Less ↦ refl
        | Equal ↦ sym (append_assoc (option_to_list (shrink x)) xs ys)
        | Greater ↦ ap (λ t. x ∷ t) (prune_ahead k shrink xs ys all)
      ]

  pub at_key-behind : (k : K) (xs ys : List E) → AllByRecursion (λ x. R k (key x) ≡ Greater) xs → at_key key R k (xs ++ ys) ≡ at_key key R k ys
  at_key-behind k [] ys all = refl
  at_key-behind k (x ∷ xs) ys all = ap (λ r. cond (is_eq r) (Some x) (at_key key R k (xs ++ ys))) all.0 ∙ at_key-behind k xs ys all.1

  pub at_key-ahead : (k : K) (xs ys : List E) → AllByRecursion (λ x. R k (key x) ≡ Less) ys → at_key key R k (xs ++ ys) ≡ at_key key R k xs
  at_key-ahead k [] ys all = at_key-below key o k ys all
  at_key-ahead k (x ∷ xs) ys all = ap (cond (is_eq (R k (key x))) (Some x)) (at_key-ahead k xs ys all)

  -- in rising lists
  pub rising_back : (xs ys : List E) → Rising key R (xs ++ ys) → Rising key R ys
  rising_back [] ys rising = rising
  rising_back (x ∷ xs) ys rising = rising_back xs ys rising.1

  pub rising_front : (xs ys : List E) → Rising key R (xs ++ ys) → Rising key R xs
  rising_front [] ys rising = tt
  rising_front (x ∷ xs) ys rising = (all_front (λ y. R (key x) (key y) ≡ Less) xs ys rising.0, rising_front xs ys rising.1)

  all_below : (k : K) (t : E) (xs ys : List E) → Rising key R (xs ++ (t ∷ ys)) → ((x : E) → R (key x) (key t) ≡ Less → R k (key x) ≡ Greater) → AllByRecursion (λ x. R k (key x) ≡ Greater) xs
  all_below k t [] ys rising turn = tt
  all_below k t (x ∷ xs) ys rising turn = (turn x (all_back (λ y. R (key x) (key y) ≡ Less) xs (t ∷ ys) rising.0).0, all_below k t xs ys rising.1 turn)

  all_above : (k : K) (t : E) (ys : List E) → AllByRecursion (λ y. R (key t) (key y) ≡ Less) ys → R k (key t) ≡ Less → AllByRecursion (λ y. R k (key y) ≡ Less) ys
  all_above k t [] all less = tt
  all_above k t (y ∷ ys) all less = (o.trans k (key t) (key y) less all.0, all_above k t ys all.1 less)

  turned : (x y : K) (r : Ordering) → R x y ≡ r → R y x ≡ ordering_reverse r
  turned x y r is = o.antisymm y x ∙ ap ordering_reverse is

  module _ (k v : K) (bs : List (List E)) (m : ℕ) where
    -- the blocks before one that begins no higher are below the key
    before_block : (b : List E) → Rising key R (joined bs) → m < length bs → b ≡ get_or bs m b → slice_get (map key b) 0 ≡ Some v → ((x : E) → R (key x) v ≡ Less → R k (key x) ≡ Greater) → AllByRecursion (λ x. R k (key x) ≡ Greater) (joined (take m bs))
    before_block [] rising lt is begins turn = cc
    before_block (t ∷ ts) rising lt is begins turn =
        let same : key t ≡ v = cc in
        all_below k t (joined (take m bs)) (ts ++ joined (drop (suc m) bs)) (subst (Rising key R) (apart bs m (t ∷ ts) lt is) rising)
        (λ x less. turn x (subst (λ u. R (key x) u ≡ Less) same less))

    pub before_greater : (b : List E) → Rising key R (joined bs) → m < length bs → b ≡ get_or bs m b → slice_get (map key b) 0 ≡ Some v → R k v ≡ Greater → AllByRecursion (λ x. R k (key x) ≡ Greater) (joined (take m bs))
    before_greater b rising lt is begins greater =
        before_block b rising lt is begins (λ x less. turned (key x) k Less (o.trans (key x) v k less (turned k v Greater greater)))

    pub before_equal : (b : List E) → Rising key R (joined bs) → m < length bs → b ≡ get_or bs m b → slice_get (map key b) 0 ≡ Some v → R k v ≡ Equal → AllByRecursion (λ x. R k (key x) ≡ Greater) (joined (take m bs))
    before_equal b rising lt is begins equal =
        before_block b rising lt is begins (λ x less. o.congr k v (key x) equal ∙ turned (key x) v Less less)

    -- those from one that begins higher on are above it
    pub from_less : (b : List E) → Rising key R (joined bs) → m < length bs → b ≡ get_or bs m b → slice_get (map key b) 0 ≡ Some v → R k v ≡ Less → AllByRecursion (λ x. R k (key x) ≡ Less) (b ++ joined (drop (suc m) bs))
    from_less [] rising lt is begins less = cc
    from_less (t ∷ ts) rising lt is begins less =
        let same : key t ≡ v = cc in
        let here : R k (key t) ≡ Less = ap (R k) same ∙ less in
        (here, all_above k t (ts ++ joined (drop (suc m) bs)) (rising_back (joined (take m bs)) (t ∷ (ts ++ joined (drop (suc m) bs))) (subst (Rising key R) (apart bs m (t ∷ ts) lt is) rising)).0 here)

  -- an alteration in the block that the key belongs to
  module _ (k : K) (bs : List (List E)) (m : ℕ) (b : List E) (lt : m < length bs) (is : b ≡ get_or bs m b) (before : AllByRecursion (λ x. R k (key x) ≡ Greater) (joined (take m bs))) (after : AllByRecursion (λ x. R k (key x) ≡ Less) (joined (drop (suc m) bs))) where
    pub alter_block : (make : Option E → E) → joined (set bs m (alter key R k make b)) ≡ alter key R k make (joined bs)
    alter_block make =
        around bs m (alter key R k make b) lt
        ∙ sym (ap (alter key R k make) (apart bs m b lt is) ∙ alter_behind k make (joined (take m bs)) (b ++ joined (drop (suc m) bs)) before
        ∙ ap (λ l. joined (take m bs) ++ l) (alter_ahead k make b (joined (drop (suc m) bs)) after))

    pub prune_block : (shrink : E → Option E) → joined (set bs m (prune key R k shrink b)) ≡ prune key R k shrink (joined bs)
    prune_block shrink =
        around bs m (prune key R k shrink b) lt
        ∙ sym (ap (prune key R k shrink) (apart bs m b lt is) ∙ prune_behind k shrink (joined (take m bs)) (b ++ joined (drop (suc m) bs)) before
        ∙ ap (λ l. joined (take m bs) ++ l) (prune_ahead k shrink b (joined (drop (suc m) bs)) after))

    pub at_key-block : at_key key R k b ≡ at_key key R k (joined bs)
    at_key-block =
        sym (ap (at_key key R k) (apart bs m b lt is) ∙ at_key-behind k (joined (take m bs)) (b ++ joined (drop (suc m) bs)) before
        ∙ at_key-ahead k b (joined (drop (suc m) bs)) after)
