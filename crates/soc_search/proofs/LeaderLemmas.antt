-- The first elements in order, while elements come one after another and the rest is cut off.
use Rattle.std.proofs.Common.{◌≡◌, ℕ, zero, suc, ◌+◌, ◌<◌, ◌≤◌, Bool, true, false, cond, List, [], ◌∷◌, ◌++◌, Some, ltb, append-nil, ◌-◌, ⊎_elim, length, map, take, get_or, refl, sym, ap, ◌∙◌, arith, subst}
use Rattle.std.specs.Prelude.{slice_get, IfSome}
use Rattle.std.proofs.lemmas.Bool.{cases_lt, lt-ltb, le-ltb, true≢false}
use Rattle.soc_schema.specs.declared.value.Value.{Value}
use Rattle.soc_schema.specs.declared.value.Value.TheVariants.{Flag}
use Rattle.soc_schema.specs.declared.value.Cell.{Cell}
use Rattle.soc_schema.specs.Values.{rows_with}
use Rattle.std.specs.List.{AllByRecursion}
use Rattle.std.specs.Cmp.{IsTotalOrder, nat_cmp_is}
use Rattle.std.specs.Ordering.{is_gt, ordering_reverse, nat_cmp}
use Rattle.std.specs.declared.cmp.Ordering.{Ordering}
use Rattle.std.specs.declared.cmp.Ordering.TheVariants.{Less, Equal, Greater}
use Rattle.std.proofs.lemmas.Cmp.{upto}
use Rattle.std.proofs.lemmas.Map.Keys.{le_from_not_gt}
use Rattle.soc_schema.specs.Orders.{in_order, put_in_order}
use Rattle.soc_query.specs.declared.answer.Term.{Term}
use Rattle.std.proofs.lemmas.Option.{slice_get_within, slice_get-get_or}
use Rattle.std.proofs.lemmas.List.{map-append, get_or-map, length-map}
use Rattle.soc_search.specs.declared.leaders.Counted.{Counted}
use Rattle.soc_search.specs.inner.Selections.{as_term}
use Rattle.soc_search.specs.inner.Leaders.{IsBar, Leading, by_count, put_last, with_term}
use Rattle.soc_search.proofs.SortLemmas.{Up, order_up}
use Rattle.soc_search.proofs.FacetLemmas.{counts_fall, term_of, terms_more, terms_so_far}

gt_back : (r : Ordering) → is_gt r ≡ true → is_gt (ordering_reverse r) ≡ false
gt_back Less e = cc
gt_back Equal e = cc
gt_back Greater e = refl

take_none : {X : Type 0} (k : ℕ) → take {A = X} k [] ≡ []
take_none zero = refl
take_none (suc k) = refl

take_again : {X : Type 0} (k : ℕ) (x : X) (xs : List X) → take k (x ∷ xs) ≡ take k (x ∷ take k xs)
take_again zero x xs = refl
take_again (suc k) x xs = ap (λ l. x ∷ l) (twice k xs)
  where
    twice : {X : Type 0} (k : ℕ) (xs : List X) → take k xs ≡ take k (take (suc k) xs)
    twice zero xs = refl
    twice (suc k) [] = refl
    twice (suc k) (x ∷ xs) = ap (λ l. x ∷ l) (twice k xs)

module _ {X : Type 0} (R : X → X → Ordering) (o : IsTotalOrder R) where
  over : (x y z : X) → is_gt (R x y) ≡ true → is_gt (R y z) ≡ true → is_gt (R x z) ≡ true
  over x y z e h =
      elim (is_gt (R x z)) as (λ b. is_gt (R x z) ≡ b → b ≡ true) [
        | true ↦ λ _. refl
        | false ↦ λ under.
            let back : is_gt (R z y) ≡ false = ap is_gt (o.antisymm z y) ∙ gt_back (R y z) h in
            absurd (true≢false (sym e ∙ upto o x z y under back))
      ] refl

  -- an element that is put first and one that is put last
  put_both : (x y : X) (l : List X) → put_in_order R y (put_last R x l) ≡ put_last R x (put_in_order R y l)
  put_both x y [] = refl
  put_both x y (z ∷ zs) =
      elim (is_gt (R y z)) as (λ a. is_gt (R y z) ≡ a → put_in_order R y (cond (is_gt (R z x)) (x ∷ z ∷ zs) (z ∷ put_last R x zs)) ≡ put_last R x (cond a (z ∷ put_in_order R y zs) (y ∷ z ∷ zs))) [
        | true ↦ λ above.
            elim (is_gt (R z x)) as (λ b. is_gt (R z x) ≡ b → put_in_order R y (cond b (x ∷ z ∷ zs) (z ∷ put_last R x zs)) ≡ cond b (x ∷ z ∷ put_in_order R y zs) (z ∷ put_last R x (put_in_order R y zs))) [
              | true ↦ λ before.
                  ap (λ b. cond b (x ∷ put_in_order R y (z ∷ zs)) (y ∷ x ∷ z ∷ zs)) (over y z x above before)
                  ∙ ap (λ b. x ∷ cond b (z ∷ put_in_order R y zs) (y ∷ z ∷ zs)) above
              | false ↦ λ _. ap (λ b. cond b (z ∷ put_in_order R y (put_last R x zs)) (y ∷ z ∷ put_last R x zs)) above ∙ ap (λ l. z ∷ l) (put_both x y zs)
            ] refl
        | false ↦ λ under.
            elim (is_gt (R z x)) as (λ b. is_gt (R z x) ≡ b → put_in_order R y (cond b (x ∷ z ∷ zs) (z ∷ put_last R x zs)) ≡ cond (is_gt (R y x)) (x ∷ y ∷ z ∷ zs) (y ∷ cond b (x ∷ z ∷ zs) (z ∷ put_last R x zs))) [
              | true ↦ λ _. ap (λ l. cond (is_gt (R y x)) (x ∷ l) (y ∷ x ∷ z ∷ zs)) (ap (λ b. cond b (z ∷ put_in_order R y zs) (y ∷ z ∷ zs)) under)
              | false ↦ λ behind.
                  ap (λ b. cond b (z ∷ put_in_order R y (put_last R x zs)) (y ∷ z ∷ put_last R x zs)) under
                  ∙ sym (ap (λ b. cond b (x ∷ y ∷ z ∷ zs) (y ∷ z ∷ put_last R x zs)) (upto o y z x under behind))
            ] refl
      ] refl

  -- one more behind the others
  pub order_last : (x : X) (xs : List X) → in_order R (xs ++ x ∷ []) ≡ put_last R x (in_order R xs)
  order_last x [] = refl
  order_last x (y ∷ ys) = ap (put_in_order R y) (order_last x ys) ∙ put_both x y (in_order R ys)

  -- the first ones decide the first ones
  pub first_last : (k : ℕ) (x : X) (l : List X) → take k (put_last R x l) ≡ take k (put_last R x (take k l))
  first_last zero x l = refl
  first_last (suc k) x [] = refl
  first_last (suc k) x (z ∷ zs) =
      elim (is_gt (R z x)) as (λ b. take (suc k) (cond b (x ∷ z ∷ zs) (z ∷ put_last R x zs)) ≡ take (suc k) (cond b (x ∷ z ∷ take k zs) (z ∷ put_last R x (take k zs)))) [
        | true ↦ ap (λ l. x ∷ l) (take_again k z zs)
        | false ↦ ap (λ l. z ∷ l) (first_last k x zs)
      ]

  -- one that comes behind them all
  pub last_over : (k : ℕ) (x : X) (l : List X) → k ≤ length l → AllByRecursion (λ y. is_gt (R y x) ≡ false) l → take k (put_last R x l) ≡ take k l
  last_over zero x l few all = refl
  last_over (suc k) x [] few all = absurd (omega arith)
  last_over (suc k) x (y ∷ ys) few all =
      ap (λ b. take (suc k) (cond b (x ∷ y ∷ ys) (y ∷ put_last R x ys))) all.0 ∙ ap (λ l. y ∷ l) (last_over k x ys (omega arith) all.1)

  all_first : (P : X → Type 0) (k : ℕ) (l : List X) → AllByRecursion P l → AllByRecursion P (take k l)
  all_first P zero l all = tt
  all_first P (suc k) [] all = tt
  all_first P (suc k) (x ∷ xs) all = (all.0, all_first P k xs all.1)

  up_first : (k : ℕ) (l : List X) → Up R o l → Up R o (take k l)
  up_first zero l up = tt
  up_first (suc k) [] up = tt
  up_first (suc k) (x ∷ xs) up = (all_first (λ y. is_gt (R x y) ≡ false) k xs up.0, up_first k xs up.1)

  put_first : (x : X) (l : List X) → AllByRecursion (λ y. is_gt (R x y) ≡ false) l → put_in_order R x l ≡ x ∷ l
  put_first x [] all = refl
  put_first x (y ∷ ys) all = ap (λ b. cond b (y ∷ put_in_order R x ys) (x ∷ y ∷ ys)) all.0

  in_order_up : (l : List X) → Up R o l → in_order R l ≡ l
  in_order_up [] up = refl
  in_order_up (x ∷ xs) up = ap (put_in_order R x) (in_order_up xs up.1) ∙ put_first x xs up.0

  -- what was cut is in order
  pub order_cut : (k : ℕ) (xs : List X) → in_order R (take k (in_order R xs)) ≡ take k (in_order R xs)
  order_cut k xs = in_order_up (take k (in_order R xs)) (up_first k (in_order R xs) (order_up R o xs))

  put_all : (P : X → Type 0) (x : X) (l : List X) → P x → AllByRecursion P l → AllByRecursion P (put_last R x l)
  put_all P x [] here all = (here, tt)
  put_all P x (y ∷ ys) here all =
      elim (is_gt (R y x)) as (λ b. AllByRecursion P (cond b (x ∷ y ∷ ys) (y ∷ put_last R x ys))) [ true ↦ (here, all) | false ↦ (all.0, put_all P x ys here all.1) ]

  all_last : (P : X → Type 0) (k : ℕ) (x : X) (l : List X) → P x → AllByRecursion P l → AllByRecursion P (take k (put_last R x l))
  all_last P k x l here all = all_first P k (put_last R x l) (put_all P x l here all)

  length_last : (x : X) (l : List X) → length (put_last R x l) ≡ suc (length l)
  length_last x [] = refl
  length_last x (y ∷ ys) =
      elim (is_gt (R y x)) as (λ b. length (cond b (x ∷ y ∷ ys) (y ∷ put_last R x ys)) ≡ suc (suc (length ys))) [ true ↦ refl | false ↦ ap suc (length_last x ys) ]

  -- the last one of some in order is no less than any
  up_last : (l : List X) (i : ℕ) (d : X) → Up R o l → length l ≡ suc i → AllByRecursion (λ y. is_gt (R y (get_or l i d)) ≡ false) l
  up_last [] i d up many = tt
  up_last (x ∷ []) zero d up many = (ap is_gt (itself x), tt)
    where
      itself : (x : X) → R x x ≡ Equal
      itself x = Rattle.std.proofs.lemmas.Cmp.tied_itself o x
  up_last (x ∷ []) (suc i) d up many = absurd (omega (arith, many))
  up_last (x ∷ y ∷ ys) zero d up many = absurd (omega (arith, many))
  up_last (x ∷ y ∷ ys) (suc i) d up many =
      let rest : AllByRecursion (λ z. is_gt (R z (get_or (y ∷ ys) i d)) ≡ false) (y ∷ ys) = up_last (y ∷ ys) i d up.1 (omega (arith, many)) in
      (upto o x y (get_or (y ∷ ys) i d) up.0.0 rest.0, rest)

long_first : {X : Type 0} (k : ℕ) (l : List X) → k ≤ length l → k ≤ length (take k l)
long_first zero l few = omega arith
long_first (suc k) [] few = absurd (omega arith)
long_first (suc k) (x ∷ xs) few = let rest = long_first k xs (omega arith) in omega (arith, rest)

not_over : (a b : ℕ) → a ≤ b → is_gt (nat_cmp a b) ≡ false
not_over a b h =
    ⊎_elim (λ (lt : a < b). sym (ap is_gt (nat_cmp_is a b Less lt))) (λ (ge : b ≤ a). let same : a ≡ b = omega (arith, h, ge) in sym (ap is_gt (nat_cmp_is a b Equal same))) (cases_lt a b)

abbrev pub leading : ℕ → List Term → Leading
leading size terms = record { size = size; terms = take size (in_order by_count terms) }

-- one more term
pub leading_more : (size : ℕ) (terms : List Term) (t : Term) → leading size (terms ++ t ∷ []) ≡ with_term t (leading size terms)
leading_more size terms t =
    ap (λ l. record { size = size; terms = l }) (ap (take size) (order_last by_count counts_fall t terms) ∙ first_last by_count counts_fall size t (in_order by_count terms))

-- none so far
pub leading_none : (size : ℕ) → leading size [] ≡ record { size = size; terms = [] }
leading_none size = ap (λ l. record { size = size; terms = l }) (take_none size)

-- those that were cut lead to the same
pub leading_cut : (size : ℕ) (terms cut : List Term) → cut ≡ take size (in_order by_count terms) → leading size cut ≡ leading size terms
leading_cut size terms cut is =
    ap (leading size) is ∙ ap (λ l. record { size = size; terms = l }) (ap (take size) (order_cut by_count counts_fall size terms) ∙ again size (in_order by_count terms))
  where
    again : {X : Type 0} (k : ℕ) (xs : List X) → take k (take k xs) ≡ take k xs
    again zero xs = refl
    again (suc k) [] = refl
    again (suc k) (x ∷ xs) = ap (λ l. x ∷ l) (again k xs)

-- a count that isn't above the bar leads to nothing new
pub passed_over : (bar : ℕ) (l : Leading) (t : Term) → IsBar bar l → 0 < t.count → t.count ≤ bar → length l.terms ≤ l.size → with_term t l ≡ l
passed_over bar l t bars some under fits =
    let few : l.size ≤ length l.terms = bars.1 (omega (arith, some, under)) in
    ap (λ ts. record { size = l.size; terms = ts }) (last_over by_count counts_fall l.size t l.terms few (each l.terms bars.0) ∙ whole l.size l.terms fits)
  where
    each : (ts : List Term) → AllByRecursion (λ u. bar ≤ u.count) ts → AllByRecursion (λ u. is_gt (by_count u t) ≡ false) ts
    each [] all = tt
    each (u ∷ us) all = (not_over t.count u.count (omega (arith, under, all.0)), each us all.1)

    whole : (k : ℕ) (ts : List Term) → length ts ≤ k → take k ts ≡ ts
    whole zero [] h = refl
    whole zero (u ∷ us) h = absurd (omega arith)
    whole (suc k) [] h = refl
    whole (suc k) (u ∷ us) h = ap (λ l. u ∷ l) (whole k us (omega arith))

pub no_longer : {X : Type 0} (k : ℕ) (l : List X) → length (take k l) ≤ k
no_longer zero l = omega arith
no_longer (suc k) [] = omega arith
no_longer (suc k) (x ∷ xs) = let rest = no_longer k xs in omega (arith, rest)

-- the bar stays one
pub bar_more : (bar : ℕ) (l : Leading) (t : Term) → IsBar bar l → bar < t.count → IsBar bar (with_term t l)
bar_more bar l t bars above = (
  all_last by_count counts_fall (λ u. bar ≤ u.count) l.size t l.terms (omega (arith, above)) bars.0,
  λ some. long_first l.size (put_last by_count t l.terms) (let few = bars.1 some in omega (arith, few, length_last by_count counts_fall t l.terms)),
)

-- the last count of those that were cut is a bar
pub bar_last : (terms : List Term) (i : ℕ) (d : Term) → in_order by_count terms ≡ terms → length terms ≡ suc i → AllByRecursion (λ u. (get_or terms i d).count ≤ u.count) terms
bar_last terms i d sorted many =
    each terms (up_last by_count counts_fall terms i d (subst (Up by_count counts_fall) sorted (order_up by_count counts_fall terms)) many)
  where
    each : (ts : List Term) → AllByRecursion (λ u. is_gt (by_count u (get_or terms i d)) ≡ false) ts → AllByRecursion (λ u. (get_or terms i d).count ≤ u.count) ts
    each [] all = tt
    each (u ∷ us) all = (le_from_not_gt (get_or terms i d).count u.count all.0, each us all.1)

-- what some values with their counts lead to
abbrev pub led : ℕ → List Counted → Leading
led size kept = leading size (map as_term kept)

pub led_more : (size : ℕ) (kept now : List Counted) (c : Counted) → now ≡ kept ++ c ∷ [] → led size now ≡ with_term (as_term c) (led size kept)
led_more size kept now c is = ap (led size) is ∙ ap (leading size) (map-append as_term kept (c ∷ [])) ∙ leading_more size (map as_term kept) (as_term c)

pub led_over : (bar size : ℕ) (kept : List Counted) (c : Counted) (old : Leading) → led size kept ≡ old → IsBar bar (led size kept) → 0 < c.count → c.count ≤ bar → old ≡ with_term (as_term c) old
led_over bar size kept c old is bars some under =
    subst (λ l. l ≡ with_term (as_term c) l) is (sym (passed_over bar (led size kept) (as_term c) bars some under (no_longer size (in_order by_count (map as_term kept)))))

pub led_passed : (bar size : ℕ) (kept : List Counted) (v : Value) (n : ℕ) (old : Leading) → led size kept ≡ old → IsBar bar (led size kept) → 0 < n → n ≤ bar → with_term (record { value = v; count = n }) old ≡ old
led_passed bar size kept v n old is bars some under =
    subst (λ l. with_term (record { value = v; count = n }) l ≡ l) is (passed_over bar (led size kept) (record { value = v; count = n }) bars some under (no_longer size (in_order by_count (map as_term kept))))

pub bar_led : (bar size : ℕ) (kept now : List Counted) (c : Counted) → now ≡ kept ++ c ∷ [] → IsBar bar (led size kept) → bar < c.count → IsBar bar (led size now)
bar_led bar size kept now c is bars above = subst (IsBar bar) (sym (led_more size kept now c is)) (bar_more bar (led size kept) (as_term c) bars above)

module _ (size : ℕ) (kept cut : List Counted) (is : map as_term cut ≡ take size (in_order by_count (map as_term kept))) where
  pub led_cut : led size cut ≡ led size kept
  led_cut = leading_cut size (map as_term kept) (map as_term cut) is

  pub cut_sorted : in_order by_count (map as_term cut) ≡ map as_term cut
  cut_sorted = ap (in_order by_count) is ∙ order_cut by_count counts_fall size (map as_term kept) ∙ sym is

  cut_terms : take size (in_order by_count (map as_term cut)) ≡ map as_term cut
  cut_terms = ap (λ (l : Leading). l.terms) led_cut ∙ sym is

  pub bar_cut : (bar : ℕ) (slice : List Counted) → slice ≡ cut → AllByRecursion (λ t. bar ≤ t.count) (map as_term slice) → (0 < bar → size ≤ length slice) → IsBar bar (led size cut)
  bar_cut bar slice same below full = (
    subst (AllByRecursion (λ t. bar ≤ t.count)) (ap (map as_term) same ∙ sym cut_terms) below,
    λ some. let few = full some in omega (arith, few, ap length same, ap length cut_terms, length-map cut as_term),
  )

-- the last of values in order has the least count
pub last_bar : (kept : List Counted) (last : Counted) → slice_get kept (length kept - 1) ≡ Some last → in_order by_count (map as_term kept) ≡ map as_term kept → AllByRecursion (λ t. last.count ≤ t.count) (map as_term kept)
last_bar kept last at sorted =
    let i : ℕ = length kept - 1 in
    let within : i < length kept = slice_get_within kept i last at in
    let here : get_or kept i last ≡ last = same_some (sym (slice_get-get_or kept i last within) ∙ at) in
    let there : get_or (map as_term kept) i (as_term last) ≡ as_term last = get_or-map as_term kept i last (as_term last) within ∙ ap as_term here in
    subst (λ (u : Term). AllByRecursion (λ t. u.count ≤ t.count) (map as_term kept)) there (bar_last (map as_term kept) i (as_term last) sorted (let many = length-map kept as_term in omega (arith, many, within)))
  where
    same_some : {x y : Counted} → Some x ≡ Some y → x ≡ y
    same_some e = cc

pub no_bar : (terms : List Term) → AllByRecursion (λ t. 0 ≤ t.count) terms
no_bar [] = tt
no_bar (t ∷ ts) = (omega arith, no_bar ts)

-- the leading terms of one value more
module _ (size f : ℕ) (rows : List (ℕ × List Cell)) (vs : List Value) (i : ℕ) (v : Value) (at : slice_get vs i ≡ Some v) (old : Leading) (so_far : old ≡ leading size (terms_so_far f rows (take i vs))) (n : ℕ) (count : n ≡ length (rows_with f v rows)) where
  more : (b : Bool) → ltb 0 (length (rows_with f v rows)) ≡ b → terms_so_far f rows (take (i + 1) vs) ≡ terms_so_far f rows (take i vs) ++ cond b (term_of f rows v ∷ []) []
  more b is = terms_more f rows vs i v at ∙ ap (λ c. terms_so_far f rows (take i vs) ++ cond c (term_of f rows v ∷ []) []) is

  pub value_offered : (now : Leading) (t : Term) → 0 < n → t ≡ record { value = v; count = n } → now ≡ with_term t old → now ≡ leading size (terms_so_far f rows (take (i + 1) vs))
  value_offered now t some is offered =
      let enough : 0 < length (rows_with f v rows) = omega (arith, some, count) in
      offered ∙ ap (with_term t) so_far ∙ ap (λ u. with_term u (leading size (terms_so_far f rows (take i vs)))) (is ∙ ap (λ m. record { value = v; count = m }) count)
      ∙ sym (leading_more size (terms_so_far f rows (take i vs)) (term_of f rows v)) ∙ ap (leading size) (sym (more true (lt-ltb 0 (length (rows_with f v rows)) enough)))

  pub value_passed : n ≤ 0 → old ≡ leading size (terms_so_far f rows (take (i + 1) vs))
  value_passed none =
      let few : length (rows_with f v rows) ≤ 0 = omega (arith, none, count) in
      so_far ∙ ap (leading size) (sym (more false (le-ltb 0 (length (rows_with f v rows)) few) ∙ append-nil (terms_so_far f rows (take i vs))))

-- a value that isn't wanted
pub value_unwanted : (size f : ℕ) (rows : List (ℕ × List Cell)) (vs : List Value) (i : ℕ) (old : Leading) (n : ℕ) → old ≡ leading size (terms_so_far f rows (take i vs)) → i < length vs → IfSome (slice_get vs i) (λ v. n ≡ length (rows_with f v rows)) → (0 < n → (v : Value) → with_term (record { value = v; count = n }) old ≡ old) → old ≡ leading size (terms_so_far f rows (take (i + 1) vs))
value_unwanted size f rows vs i old n so_far within counts unwanted =
    let v : Value = get_or vs i (Flag true) in
    let at : slice_get vs i ≡ Some v = slice_get-get_or vs i (Flag true) within in
    let count : n ≡ length (rows_with f v rows) = subst (λ o. IfSome o (λ u. n ≡ length (rows_with f u rows))) at counts in
    ⊎_elim (λ (some : 0 < n). value_offered size f rows vs i v at old so_far n count old (record { value = v; count = n }) some refl (sym (unwanted some v))) (λ (none : n ≤ 0). value_passed size f rows vs i v at old so_far n count none) (cases_lt 0 n)
