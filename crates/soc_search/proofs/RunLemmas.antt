-- The values that compare with an operand as is asked stand in one run.
use Rattle.std.proofs.Common.{◌≡◌, ℕ, zero, suc, ◌+◌, ◌<◌, ◌≤◌, Bool, true, false, List, [], ◌∷◌, None, Some, length, map, get_or, refl, sym, ap, ◌∙◌, arith, subst, slice_get, nat_eq, ⊎_elim, max, min}
use denote.Ref.{Bor}
use Rattle.std.specs.Prelude.{◌&&◌, not, if◌then◌else◌}
use Rattle.std.specs.List.{list_all, starts_with}
use Rattle.std.specs.Ordering.{nat_cmp, is_lt, is_eq, is_gt, ordering_then}
use Rattle.std.specs.declared.cmp.Ordering.{Ordering}
use Rattle.std.specs.declared.cmp.Ordering.TheVariants.{Less, Equal, Greater}
use Rattle.std.specs.Cmp.Lexicographic.{slice_cmp}
use Rattle.std.proofs.lemmas.Bool.{true≢false, eq-eqb, eqb-true, and_from, and_parts, and_right, cases_lt}
use Rattle.std.proofs.lemmas.Cmp.{nat_cmp_total, tied_itself}
use Rattle.std.proofs.lemmas.Map.Lookups.{exact_bytes}
use Rattle.std.proofs.lemmas.Option.{slice_get_within, slice_get-get_or}
use Rattle.soc_base.proofs.Folk.{all_get}
use Rattle.soc_schema.specs.declared.value.Value.{Value}
use Rattle.soc_schema.specs.declared.value.Value.TheVariants.{Text, Number, Flag}
use Rattle.soc_schema.specs.Orders.{value_cmp}
use Rattle.soc_schema.specs.Tables.{Rising}
use Rattle.soc_query.specs.declared.condition.Comparison.{Comparison}
use Rattle.soc_query.specs.declared.condition.Comparison.TheVariants.{Equals, Below, AtMost, Above, AtLeast, Contains, Starts, Ends}
use Rattle.soc_search.specs.declared.runs.Edge.{Edge}
use Rattle.soc_search.specs.declared.runs.Edge.TheVariants.{First, End}
use Rattle.soc_query.specs.declared.condition.Test.{Test}
use Rattle.soc_query.specs.declared.condition.Test.TheVariants.{Compares}
use Rattle.soc_query.specs.declared.condition.Condition.{Condition}
use Rattle.soc_query.specs.Answers.{compares, is_equality, is_exact, passes}
use Rattle.soc_schema.specs.Values.{text_in}
use Rattle.soc_search.specs.inner.Runs.{IsFront, Misses, beside, comes_before, is_run, stands}
use Rattle.soc_search.specs.inner.Selections.{are_met, is_met, one_is_met, stands_out}
use Rattle.soc_schema.proofs.OrderLemmas.{value_exact, value_total}

-- texts that begin with another
first_parts : (a b : ℕ) (u t : List ℕ) → starts_with nat_eq (a ∷ u) (b ∷ t) ≡ true → (b ≡ a) × (starts_with nat_eq u t ≡ true)
first_parts a b u t e =
    let parts : (nat_eq b a ≡ true) × (starts_with nat_eq u t ≡ true) = and_parts _ _ e in (eqb-true b a parts.0, parts.1)

begins_itself : (t : List ℕ) → starts_with nat_eq t t ≡ true
begins_itself [] = refl
begins_itself (b ∷ t) = and_from (nat_eq b b) (starts_with nat_eq t t) (eq-eqb b b refl) (begins_itself t)

begins_any : (u t : List ℕ) → starts_with nat_eq [] t ≡ true → starts_with nat_eq u t ≡ true
begins_any u [] e = refl
begins_any u (b ∷ t) e = cc

-- they are no less
no_less : (u t : List ℕ) → starts_with nat_eq u t ≡ true → is_lt (slice_cmp nat_cmp u t) ≡ false
no_less [] [] e = refl
no_less (a ∷ u) [] e = refl
no_less [] (b ∷ t) e = cc
no_less (a ∷ u) (b ∷ t) e =
    let parts = first_parts a b u t e in
    ap (λ n. is_lt (ordering_then (nat_cmp n b) (slice_cmp nat_cmp u t))) (sym parts.0) ∙ ap (λ r. is_lt (ordering_then r (slice_cmp nat_cmp u t))) (tied_itself nat_cmp_total b) ∙ no_less u t parts.1

same_number : (a b : ℕ) → nat_cmp a b ≡ Equal → a ≡ b
same_number a b e = let same : a ∷ [] ≡ b ∷ [] = exact_bytes (a ∷ []) (b ∷ []) (ap (λ r. ordering_then r Equal) e) in cc

-- and what stands between them and that text begins with it
between : (u w t : List ℕ) → starts_with nat_eq w t ≡ true → slice_cmp nat_cmp u w ≡ Less → is_lt (slice_cmp nat_cmp u t) ≡ false → starts_with nat_eq u t ≡ true
between u w [] e less least = refl
between u [] (b ∷ t) e less least = cc
between [] (c ∷ w) (b ∷ t) e less least = cc
between (a ∷ u) (c ∷ w) (b ∷ t) e less least =
    let parts = first_parts c b w t e in
    let under : ordering_then (nat_cmp a b) (slice_cmp nat_cmp u w) ≡ Less = ap (λ n. ordering_then (nat_cmp a n) (slice_cmp nat_cmp u w)) parts.0 ∙ less in
    elim (nat_cmp a b) as (λ r. nat_cmp a b ≡ r → starts_with nat_eq (a ∷ u) (b ∷ t) ≡ true) [
      | Less ↦ λ is. absurd (true≢false (sym (ap (λ r. is_lt (ordering_then r (slice_cmp nat_cmp u t))) is) ∙ least))
      | Equal ↦ λ is. and_from (nat_eq b a) (starts_with nat_eq u t) (eq-eqb b a (sym (same_number a b is)))
          (between u w t parts.1 (sym (ap (λ r. ordering_then r (slice_cmp nat_cmp u w)) is) ∙ under) (sym (ap (λ r. is_lt (ordering_then r (slice_cmp nat_cmp u t))) is) ∙ least))
      | Greater ↦ λ is. let above : Greater ≡ Less = sym (ap (λ r. ordering_then r (slice_cmp nat_cmp u w)) is) ∙ under in cc
    ] refl

-- a value below one that isn't above the operand
below : (v w o : Value) → value_cmp v w ≡ Less → not (is_gt (value_cmp w o)) ≡ true → value_cmp v o ≡ Less
below v w o less under =
    elim (value_cmp w o) as (λ r. value_cmp w o ≡ r → not (is_gt r) ≡ true → value_cmp v o ≡ Less) [
      | Less ↦ λ is _. value_total.trans v w o less is
      | Equal ↦ λ is _. ap (value_cmp v) (sym (value_exact w o is)) ∙ less
      | Greater ↦ λ _ above. absurd (true≢false (sym above))
    ] refl under

-- where the greater of two values comes before an edge, so does the lesser: r and s tell how they compare with the operand
less_before : (edge : Edge) → comes_before edge Less ≡ true
less_before First = refl
less_before End = refl

abbrev by_order : Comparison → Bool → Ordering → Ordering
by_order how c r = if c then Equal else beside how r

below_kept : (edge : Edge) (r s : Ordering) → (not (is_gt s) ≡ true → r ≡ Less) → comes_before edge (by_order Below (is_lt s) s) ≡ true → comes_before edge (by_order Below (is_lt r) r) ≡ true
below_kept edge r Less h e = subst (λ q. comes_before edge (by_order Below (is_lt q) q) ≡ true) (sym (h refl)) e
below_kept First r Equal h e = cc
below_kept End r Equal h e = cc
below_kept First r Greater h e = cc
below_kept End r Greater h e = cc

most_kept : (edge : Edge) (r s : Ordering) → (not (is_gt s) ≡ true → r ≡ Less) → comes_before edge (by_order AtMost (not (is_gt s)) s) ≡ true → comes_before edge (by_order AtMost (not (is_gt r)) r) ≡ true
most_kept edge r Less h e = subst (λ q. comes_before edge (by_order AtMost (not (is_gt q)) q) ≡ true) (sym (h refl)) e
most_kept edge r Equal h e = subst (λ q. comes_before edge (by_order AtMost (not (is_gt q)) q) ≡ true) (sym (h refl)) e
most_kept First r Greater h e = cc
most_kept End r Greater h e = cc

above_kept : (edge : Edge) (r s : Ordering) → (not (is_gt s) ≡ true → r ≡ Less) → comes_before edge (by_order Above (is_gt s) s) ≡ true → comes_before edge (by_order Above (is_gt r) r) ≡ true
above_kept edge r Less h e = subst (λ q. comes_before edge (by_order Above (is_gt q) q) ≡ true) (sym (h refl)) e
above_kept edge r Equal h e = subst (λ q. comes_before edge (by_order Above (is_gt q) q) ≡ true) (sym (h refl)) e
above_kept First r Greater h e = cc
above_kept End Less Greater h e = refl
above_kept End Equal Greater h e = refl
above_kept End Greater Greater h e = refl

least_kept : (edge : Edge) (r s : Ordering) → (not (is_gt s) ≡ true → r ≡ Less) → comes_before edge (by_order AtLeast (not (is_lt s)) s) ≡ true → comes_before edge (by_order AtLeast (not (is_lt r)) r) ≡ true
least_kept edge r Less h e = subst (λ q. comes_before edge (by_order AtLeast (not (is_lt q)) q) ≡ true) (sym (h refl)) e
least_kept edge r Equal h e = subst (λ q. comes_before edge (by_order AtLeast (not (is_lt q)) q) ≡ true) (sym (h refl)) (less_before edge)
least_kept First r Greater h e = cc
least_kept End Less Greater h e = refl
least_kept End Equal Greater h e = refl
least_kept End Greater Greater h e = refl

-- a and b tell whether they begin with it
begin_kept : (edge : Edge) (a b : Bool) (r s : Ordering) → (not (is_gt s) ≡ true → r ≡ Less) → (a ≡ true → is_lt r ≡ false) → (b ≡ true → is_lt r ≡ false → a ≡ true) → comes_before edge (by_order Starts b s) ≡ true → comes_before edge (by_order Starts a r) ≡ true
begin_kept End true b r s h least inside e = refl
begin_kept First true true r s h least inside e = cc
begin_kept First true false r Less h least inside e = absurd (true≢false (sym (ap is_lt (h refl)) ∙ least refl))
begin_kept First true false r Equal h least inside e = cc
begin_kept First true false r Greater h least inside e = cc
begin_kept First false true r s h least inside e = cc
begin_kept End false true Less s h least inside e = refl
begin_kept End false true Equal s h least inside e = absurd (true≢false (sym (inside refl refl)))
begin_kept End false true Greater s h least inside e = absurd (true≢false (sym (inside refl refl)))
begin_kept edge false false r Less h least inside e = subst (λ q. comes_before edge q ≡ true) (sym (h refl)) (less_before edge)
begin_kept edge false false r Equal h least inside e = subst (λ q. comes_before edge q ≡ true) (sym (h refl)) (less_before edge)
begin_kept First false false r Greater h least inside e = cc
begin_kept End false false r Greater h least inside e = cc

starts_kept : (edge : Edge) (o v w : Value) → value_cmp v w ≡ Less → comes_before edge (stands Starts o w) ≡ true → comes_before edge (stands Starts o v) ≡ true
starts_kept edge (Number n) v w less e = e
starts_kept edge (Flag f) v w less e = e
starts_kept edge (Text t) (Text x) (Text y) less e =
    begin_kept edge (starts_with nat_eq x t) (starts_with nat_eq y t) (value_cmp (Text x) (Text t)) (value_cmp (Text y) (Text t)) (below (Text x) (Text y) (Text t) less) (no_less x t) (λ begins least. between x y t begins less least) e
starts_kept edge (Text t) (Text x) (Number m) less e =
    begin_kept edge (starts_with nat_eq x t) (starts_with nat_eq [] t) (value_cmp (Text x) (Text t)) Greater (below (Text x) (Number m) (Text t) less) (no_less x t) (λ begins _. begins_any x t begins) e
starts_kept edge (Text t) (Text x) (Flag f) less e =
    begin_kept edge (starts_with nat_eq x t) (starts_with nat_eq [] t) (value_cmp (Text x) (Text t)) Greater (below (Text x) (Flag f) (Text t) less) (no_less x t) (λ begins _. begins_any x t begins) e
starts_kept edge (Text t) (Number m) (Text y) less e = cc
starts_kept edge (Text t) (Number m) (Number n) less e = e
starts_kept edge (Text t) (Number m) (Flag f) less e = e
starts_kept edge (Text t) (Flag f) (Text y) less e = cc
starts_kept edge (Text t) (Flag f) (Number n) less e = e
starts_kept edge (Text t) (Flag f) (Flag g) less e = e

pub stands_kept : (how : Comparison) (edge : Edge) (o v w : Value) → is_run how ≡ true → value_cmp v w ≡ Less → comes_before edge (stands how o w) ≡ true → comes_before edge (stands how o v) ≡ true
stands_kept Below edge o v w run less = below_kept edge (value_cmp v o) (value_cmp w o) (below v w o less)
stands_kept AtMost edge o v w run less = most_kept edge (value_cmp v o) (value_cmp w o) (below v w o less)
stands_kept Above edge o v w run less = above_kept edge (value_cmp v o) (value_cmp w o) (below v w o less)
stands_kept AtLeast edge o v w run less = least_kept edge (value_cmp v o) (value_cmp w o) (below v w o less)
stands_kept Starts edge o v w run less = starts_kept edge o v w less
stands_kept Equals edge o v w run less = cc
stands_kept Contains edge o v w run less = cc
stands_kept Ends edge o v w run less = cc

-- a value compares so exactly where it stands in the run
in_place : (how : Comparison) (c : Bool) (r : Ordering) → (c ≡ false → is_eq (beside how r) ≡ false) → c ≡ is_eq (by_order how c r)
in_place how true r h = refl
in_place how false r h = sym (h refl)

pub in_run : (how : Comparison) (o v : Value) → is_run how ≡ true → compares how o v ≡ is_eq (stands how o v)
in_run Below o v run = in_place Below (is_lt (value_cmp v o)) (value_cmp v o) (λ _. refl)
in_run AtMost o v run = in_place AtMost (not (is_gt (value_cmp v o))) (value_cmp v o) (above (value_cmp v o))
  where
    above : (r : Ordering) → not (is_gt r) ≡ false → is_eq r ≡ false
    above Less e = refl
    above Equal e = cc
    above Greater e = refl
in_run Above o v run = in_place Above (is_gt (value_cmp v o)) (value_cmp v o) (λ _. refl)
in_run AtLeast o v run = in_place AtLeast (not (is_lt (value_cmp v o))) (value_cmp v o) (under (value_cmp v o))
  where
    under : (r : Ordering) → not (is_lt r) ≡ false → is_eq r ≡ false
    under Less e = refl
    under Equal e = cc
    under Greater e = refl
in_run Starts o v run =
    in_place Starts (starts_with nat_eq (text_in v) (text_in o)) (value_cmp v o)
    (λ apart.
    elim (value_cmp v o) as (λ r. value_cmp v o ≡ r → is_eq r ≡ false) [
      | Less ↦ λ _. refl
      | Equal ↦ λ is. absurd (true≢false (sym (ap (λ u. starts_with nat_eq (text_in u) (text_in o)) (value_exact v o is) ∙ begins_itself (text_in o)) ∙ apart))
      | Greater ↦ λ _. refl
    ] refl)
in_run Equals o v run = cc
in_run Contains o v run = cc
in_run Ends o v run = cc

rising_less : (vs : List Value) (j k : ℕ) (d e : Value) → Rising (λ v. v) value_cmp vs → j < k → k < length vs → value_cmp (get_or vs j d) (get_or vs k e) ≡ Less
rising_less [] j k d e rises lt within = absurd (omega arith)
rising_less (v ∷ vs) j zero d e rises lt within = absurd (omega arith)
rising_less (v ∷ vs) zero (suc k) d e rises lt within = all_get (λ w. value_cmp v w ≡ Less) vs k e rises.0 (omega arith)
rising_less (v ∷ vs) (suc j) (suc k) d e rises lt within = rising_less vs j k d e rises.1 (omega arith) (omega arith)

some_same : {x y : Value} → Some x ≡ Some y → x ≡ y
some_same e = cc

-- one value that was looked at
module _ (how : Comparison) (edge : Edge) (o : Value) (run : is_run how ≡ true) (vs : List Value) (rises : Rising (λ v. v) value_cmp vs) (m : ℕ) (v : Value) (at : slice_get vs m ≡ Some v) where
  here : get_or vs m v ≡ v
  here = some_same (sym (slice_get-get_or vs m v (slice_get_within vs m v at)) ∙ at)

  there : (k : ℕ) (d : Value) → k ≡ m → get_or vs k d ≡ v
  there k d same = some_same (sym (slice_get-get_or vs k d (let within = slice_get_within vs m v at in omega (arith, same, within))) ∙ ap (slice_get vs) same ∙ at)

  abbrev comes : Value → Bool
  comes u = comes_before edge (stands how o u)

  pub front_more : comes v ≡ true → (k : ℕ) (d : Value) → k < m + 1 → comes (get_or vs k d) ≡ true
  front_more takes k d few =
      ⊎_elim
      (λ (lt : k < m). stands_kept how edge o (get_or vs k d) v run (subst (λ u. value_cmp (get_or vs k d) u ≡ Less) here (rising_less vs k m d v rises lt (slice_get_within vs m v at))) takes)
      (λ (ge : m ≤ k). ap comes (there k d (omega arith)) ∙ takes)
      (cases_lt k m)

  pub front_less : comes v ≡ false → (k : ℕ) (d : Value) → m ≤ k → k < length vs → comes (get_or vs k d) ≡ false
  front_less leaves k d behind within =
      ⊎_elim
      (λ (lt : m < k).
      elim (comes (get_or vs k d)) as (λ b. comes (get_or vs k d) ≡ b → b ≡ false) [
        | true ↦ λ takes. absurd (true≢false (sym (stands_kept how edge o v (get_or vs k d) run (subst (λ u. value_cmp u (get_or vs k d) ≡ Less) here (rising_less vs m k v d rises lt within)) takes) ∙ leaves))
        | false ↦ λ _. refl
      ] refl)
      (λ (ge : k ≤ m). ap comes (there k d (omega arith)) ∙ leaves)
      (cases_lt m k)

-- the run between its edges
less_out : (r : Ordering) → comes_before First r ≡ true → is_eq r ≡ false
less_out Less e = refl
less_out Equal e = cc
less_out Greater e = refl

greater_out : (r : Ordering) → comes_before End r ≡ false → is_eq r ≡ false
greater_out Less e = cc
greater_out Equal e = cc
greater_out Greater e = refl

-- outside of its run no value meets a condition
missed : (n : Bool) (t : Test) (how : Comparison) (o v : Value) → t ≡ Compares how o → n ≡ false → is_run how ≡ true → compares how o v ≡ false → ((not n && is_equality t) ≡ false) × ((if n then not (passes t (Some v)) else passes t (Some v)) ≡ false)
missed n t how o v is plain run out =
    (ap (λ u. not n && is_equality u) is ∙ ap (λ b. not b && is_equality (Compares how o)) plain ∙ unequal how run, ap (λ b. if b then not (passes t (Some v)) else passes t (Some v)) plain ∙ ap (λ u. passes u (Some v)) is ∙ out)
  where
    unequal : (how : Comparison) → is_run how ≡ true → is_equality (Compares how o) ≡ false
    unequal Equals run = cc
    unequal Below run = refl
    unequal AtMost run = refl
    unequal Above run = refl
    unequal AtLeast run = refl
    unequal Contains run = cc
    unequal Starts run = refl
    unequal Ends run = cc

module _ (c : Condition) (how : Comparison) (o : Value) (is : c.test ≡ Compares how o) (plain : c.negated ≡ false) (run : is_run how ≡ true) (vs : List Value) (n : ℕ) where
  pub misses_before : IsFront (λ v. comes_before First (stands how o v)) vs n → (k : ℕ) (d : Value) → k < n → Misses c (get_or vs k d)
  misses_before begins k d lt = missed c.negated c.test how o (get_or vs k d) is plain run (in_run how o (get_or vs k d) run ∙ less_out (stands how o (get_or vs k d)) (begins.1 k d lt))

  pub misses_behind : IsFront (λ v. comes_before End (stands how o v)) vs n → (k : ℕ) (d : Value) → n ≤ k → k < length vs → Misses c (get_or vs k d)
  misses_behind ends k d le lt = missed c.negated c.test how o (get_or vs k d) is plain run (in_run how o (get_or vs k d) run ∙ greater_out (stands how o (get_or vs k d)) (ends.2 k d le lt))

all_out : (h : Condition → Bool) (cs : List (Bor Condition)) (i : ℕ) (c : Bor Condition) → i < length cs → get_or cs i c ≡ c → h c.now ≡ false → list_all h (map (λ (d : Bor Condition). d.now) cs) ≡ false
all_out h [] i c within here out = absurd (omega arith)
all_out h (d ∷ ds) zero c within here out = ap (λ b. b && list_all h (map (λ (e : Bor Condition). e.now) ds)) (ap (λ (e : Bor Condition). h e.now) here ∙ out)
all_out h (d ∷ ds) (suc i) c within here out = ap (λ b. h d.now && b) (all_out h ds i c (omega arith) here out) ∙ and_right (h d.now) false refl

-- where rows without the field don't meet the conditions, a value that one of them misses doesn't stand out
pub not_out : (asked : List (Bor Condition)) (i : ℕ) (c : Bor Condition) (v : Value) → i < length asked → get_or asked i c ≡ c → are_met (map (λ (d : Bor Condition). d.now) asked) None ≡ false → Misses c.now v → stands_out (map (λ (d : Bor Condition). d.now) asked) v ≡ false
not_out asked i c v within here absent misses =
    let cs : List Condition = map (λ (d : Bor Condition). d.now) asked in
    ap (λ b. if b then not (are_met cs (Some v)) else are_met cs (Some v)) absent
    ∙ all_out (λ d. if is_exact d then one_is_met cs (Some v) else is_met d (Some v)) asked i c within here (ap (λ b. if b then one_is_met cs (Some v) else is_met c.now (Some v)) misses.0 ∙ misses.1)

-- a run that one more condition narrows
module _ (asked : List (Bor Condition)) (i : ℕ) (c : Bor Condition) (vs : List Value) (within : i < length asked) (here : get_or asked i c ≡ c) (absent : are_met (map (λ (d : Bor Condition). d.now) asked) None ≡ false) where
  pub out_before : (a b n : ℕ) → n ≡ max a b → ((k : ℕ) (d : Value) → k < a → stands_out (map (λ (e : Bor Condition). e.now) asked) (get_or vs k d) ≡ false) → ((k : ℕ) (d : Value) → k < b → Misses c.now (get_or vs k d))
      → (k : ℕ) (d : Value) → k < n → stands_out (map (λ (e : Bor Condition). e.now) asked) (get_or vs k d) ≡ false
  out_before a b n is out misses k d lt =
      ⊎_elim (λ (le : k < a). out k d le) (λ (ge : a ≤ k). not_out asked i c (get_or vs k d) within here absent (misses k d (omega (arith, is)))) (cases_lt k a)

  pub out_behind : (a b n : ℕ) → n ≡ min a b → ((k : ℕ) (d : Value) → a ≤ k → k < length vs → stands_out (map (λ (e : Bor Condition). e.now) asked) (get_or vs k d) ≡ false) → ((k : ℕ) (d : Value) → b ≤ k → k < length vs → Misses c.now (get_or vs k d))
      → (k : ℕ) (d : Value) → n ≤ k → k < length vs → stands_out (map (λ (e : Bor Condition). e.now) asked) (get_or vs k d) ≡ false
  out_behind a b n is out misses k d le lt =
      ⊎_elim (λ (under : k < a). not_out asked i c (get_or vs k d) within here absent (misses k d (omega (arith, is)) lt)) (λ (ge : a ≤ k). out k d ge lt) (cases_lt k a)
