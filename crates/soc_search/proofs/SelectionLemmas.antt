-- Which rows are selected.
use Rattle.std.proofs.Common.{◌≡◌, ℕ, zero, suc, ◌+◌, ◌<◌, ◌≤◌, Bool, true, false, cond, List, [], ◌∷◌, ◌++◌, Option, None, Some, length, map, filter, take, get_or, count_by, refl, sym, ap, ◌∙◌, arith, subst, slice_get, nat_eq, length-append, Result, Ok, Err, set, Global, Vec}
use Rattle.std.specs.Prelude.{not, ◌&&◌, ◌||◌}
use Rattle.std.proofs.lemmas.Bool.{true≢false, eq-eqb, ne_eqb, and_left, and_right, and_from, or_left}
use Rattle.std.proofs.lemmas.Cmp.{nat_cmp_total, tied_itself}
use Rattle.std.proofs.lemmas.List.Folds.{list_any_more}
use Rattle.std.specs.Ordering.{nat_cmp, is_eq, ordering_reverse}
use Rattle.std.specs.declared.cmp.Ordering.{Ordering}
use Rattle.std.specs.declared.cmp.Ordering.TheVariants.{Less, Equal, Greater}
use Rattle.std.specs.Option.{option_map, option_map_or}
use Rattle.std.specs.Prelude.{IfSome, IfOk}
use Rattle.std.proofs.lemmas.Option.{slice_get_within, slice_get-get_or}
use Rattle.std.specs.List.{All, Contains}
use Rattle.soc_base.proofs.Folk.{some-injective, or_second}
use Rattle.soc_schema.specs.declared.value.Value.{Value}
use Rattle.soc_schema.specs.declared.value.Value.TheVariants.{Text, Number, Flag}
use Rattle.soc_schema.specs.declared.caller.Products.TheVariants.{Some as OnlyProducts}
use Rattle.soc_schema.specs.Fields.{product_field}
use Rattle.soc_schema.specs.Permits.{shows}
use Rattle.std.specs.Str.{bytes_eq}
use Rattle.std.proofs.lemmas.Map.Text.{is_eq-slice_cmp}
use Rattle.soc_schema.specs.Rows.{value_of}
use Rattle.soc_schema.specs.Orders.{value_cmp}
use Rattle.soc_schema.specs.Values.{is_value, product_of, rows_with, text_of}
use Rattle.soc_store.specs.Stored.{PlacesRise, places_of, row_at, value_at}
use Rattle.soc_schema.proofs.OrderLemmas.{value_total, value_exact}
use Rattle.std.proofs.lemmas.List.{map-append, take_all, take_more}
use Rattle.std.proofs.lemmas.List.Elements.{filter_more}
use Rattle.std.proofs.lemmas.List.Sums.{length-filter}
use Rattle.std.specs.List.{AllByRecursion, list_any}
use Rattle.soc_schema.specs.declared.value.Cell.{Cell}
use Rattle.soc_search.specs.declared.selection.Selection.{Selection}
use Rattle.soc_search.specs.inner.Selections.{AreListed, Finds, Selects, selected}
use Rattle.soc_search.proofs.AnswerLemmas.{selected_rows}
use Rattle.soc_search.proofs.HitLemmas.{all_there}

all_of_them : (places : List ℕ) → filter (selected None) places ≡ places
all_of_them [] = refl
all_of_them (p ∷ ps) = ap (λ l. p ∷ l) (all_of_them ps)

pub count_all : (places : List ℕ) → count_by (selected None) places ≡ length places
count_all places = sym (length-filter (selected None) places) ∙ ap length (all_of_them places)

pub every_row : (rows : List (ℕ × List Cell)) → filter (λ s. selected None s.0) rows ≡ rows
every_row [] = refl
every_row (s ∷ ss) = ap (λ l. s ∷ l) (every_row ss)

pub rows_all : (rows : List (ℕ × List Cell)) → length (filter (λ s. selected None s.0) rows) ≡ length rows
rows_all rows = ap length (every_row rows)

-- one row more of those that were looked at
at_row : (rows : List (ℕ × List Cell)) (i p : ℕ) → slice_get (map (λ s. s.0) rows) i ≡ Some p → (s : ℕ × List Cell) × (i < length rows) × (get_or rows i s ≡ s) × (s.0 ≡ p)
at_row [] i p at = let e : None ≡ Some p = at in cc
at_row (s ∷ ss) zero p at = let same : s.0 ≡ p = some-injective at in (s, omega arith, refl, same)
at_row (s ∷ ss) (suc i) p at = let rest = at_row ss i p at in (rest.0, omega (arith, rest.1), rest.2, rest.3)

places_out : (b : Bool) (s : ℕ × List Cell) (p : ℕ) → s.0 ≡ p → map (λ t. t.0) (cond b (s ∷ []) []) ≡ cond b (p ∷ []) []
places_out true s p e = ap (λ q. q ∷ []) e
places_out false s p e = refl

pub place_more : (set : ℕ → Bool) (rows : List (ℕ × List Cell)) (i p : ℕ) (done now : List ℕ) → slice_get (map (λ s. s.0) rows) i ≡ Some p → done ≡ map (λ s. s.0) (filter (λ s. set s.0) (take i rows)) → now ≡ done ++ cond (set p) (p ∷ []) [] → now ≡ map (λ s. s.0) (filter (λ s. set s.0) (take (i + 1) rows))
place_more set rows i p done now at so_far pushed =
    let found = at_row rows i p at in
    pushed ∙ ap (λ l. l ++ cond (set p) (p ∷ []) []) so_far
    ∙ ap (λ l. map (λ s. s.0) (filter (λ s. set s.0) (take i rows)) ++ l) (sym (ap (λ s. map (λ t. t.0) (cond (set s.0) (s ∷ []) [])) found.2 ∙ places_out (set found.0.0) found.0 p found.3 ∙ ap (λ q. cond (set q) (p ∷ []) []) found.3))
    ∙ sym (ap (map (λ s. s.0)) (filter_more (λ s. set s.0) rows i found.0 found.1) ∙ map-append (λ s. s.0) (filter (λ s. set s.0) (take i rows)) (cond (set (get_or rows i found.0).0) (get_or rows i found.0 ∷ []) []))

counted_out : {X Y : Type 0} (b : Bool) (x : X) (y : Y) → length (cond b (x ∷ []) []) ≡ length (cond b (y ∷ []) [])
counted_out true x y = refl
counted_out false x y = refl

pub count_more : (set : ℕ → Bool) (rows : List (ℕ × List Cell)) (i p : ℕ) (done now : ℕ) → slice_get (map (λ s. s.0) rows) i ≡ Some p → done ≡ length (filter (λ s. set s.0) (take i rows)) → now ≡ done + length (cond (set p) (p ∷ []) []) → now ≡ length (filter (λ s. set s.0) (take (i + 1) rows))
count_more set rows i p done now at so_far pushed =
    let found = at_row rows i p at in
    let more : length (cond (set (get_or rows i found.0).0) (get_or rows i found.0 ∷ []) []) ≡ length (cond (set p) (p ∷ []) []) =
    ap (λ s. length (cond (set s.0) (s ∷ []) [])) found.2 ∙ counted_out (set found.0.0) found.0 p ∙ ap (λ q. length (cond (set q) (p ∷ []) [])) found.3 in
    omega (arith, pushed, so_far, more, ap length (filter_more (λ s. set s.0) rows i found.0 found.1), length-append (filter (λ s. set s.0) (take i rows)) (cond (set (get_or rows i found.0).0) (get_or rows i found.0 ∷ []) []))

-- each place so far, and one more
kept_so : (old now : ℕ → Bool) (q : ℕ) (rows : List (ℕ × List Cell)) → ((p : ℕ) → now p ≡ (old p || nat_eq p q)) → Selects old (λ _. true) rows → Selects now (λ _. true) rows
kept_so old now q [] more all = tt
kept_so old now q (s ∷ ss) more all = (more s.0 ∙ ap (λ b. b || nat_eq s.0 q) all.0, kept_so old now q ss more all.1)

selects_push : (set : ℕ → Bool) (test : List Cell → Bool) (rows : List (ℕ × List Cell)) (s : ℕ × List Cell) → Selects set test rows → set s.0 ≡ test s.1 → Selects set test (rows ++ s ∷ [])
selects_push set test [] s all here = (here, tt)
selects_push set test (r ∷ rs) s all here = (all.0, selects_push set test rs s all.1 here)

pub each_more : (old now : ℕ → Bool) (rows : List (ℕ × List Cell)) (i q : ℕ) → slice_get (map (λ s. s.0) rows) i ≡ Some q → ((p : ℕ) → now p ≡ (old p || nat_eq p q)) → Selects old (λ _. true) (take i rows) → Selects now (λ _. true) (take (i + 1) rows)
each_more old now rows i q at more all =
    let found = at_row rows i q at in
    subst (Selects now (λ _. true)) (sym (take_more rows i found.0 found.1 ∙ ap (λ s. take i rows ++ s ∷ []) found.2))
    (selects_push now (λ _. true) (take i rows) found.0 (kept_so old now q (take i rows) more all) (more found.0.0 ∙ or_second (old found.0.0) (nat_eq found.0.0 q) (eq-eqb found.0.0 q found.3)))

pub each_all : (set : ℕ → Bool) (rows : List (ℕ × List Cell)) (i : ℕ) → length rows ≤ i → Selects set (λ _. true) (take i rows) → Selects set (λ _. true) rows
each_all set rows i all so_far = subst (Selects set (λ _. true)) (take_all i rows all) so_far

-- whether a place is among places
abbrev pub inn : ℕ → List ℕ → Bool
inn p places = list_any (λ q. nat_eq p q) places

-- of the rows those stand at the places of some that are among these
not_after : (p : ℕ) (test : ℕ × List Cell → Bool) (ss : List (ℕ × List Cell)) → AllByRecursion (λ s. nat_cmp p s.0 ≡ Less) ss → inn p (map (λ s. s.0) (filter test ss)) ≡ false
not_after p test [] less = refl
not_after p test (s ∷ ss) less =
    elim (test s) as (λ b. inn p (map (λ t. t.0) (cond b (s ∷ filter test ss) (filter test ss))) ≡ false) [
      | true ↦ or_no (nat_eq p s.0) (inn p (map (λ t. t.0) (filter test ss))) (apart p s.0 less.0) (not_after p test ss less.1)
      | false ↦ not_after p test ss less.1
    ]
  where
    apart : (a b : ℕ) → nat_cmp a b ≡ Less → nat_eq a b ≡ false
    apart a b e = ne_eqb a b (λ same. let tied : nat_cmp a b ≡ Equal = ap (nat_cmp a) (sym same) ∙ tied_itself nat_cmp_total a in let no : Less ≡ Equal = sym e ∙ tied in cc)

    or_no : (a b : Bool) → a ≡ false → b ≡ false → (a || b) ≡ false
    or_no a b e h = rw (e, h) refl

before_it : (p q : ℕ) → nat_cmp q p ≡ Less → nat_eq p q ≡ false
before_it p q e = ne_eqb p q (λ same. let tied : nat_cmp q p ≡ Equal = ap (nat_cmp q) same ∙ tied_itself nat_cmp_total q in let no : Less ≡ Equal = sym e ∙ tied in cc)

skip_row : (r : ℕ × List Cell) (test : ℕ × List Cell → Bool) (rs ss : List (ℕ × List Cell)) → AllByRecursion (λ s. nat_cmp r.0 s.0 ≡ Less) ss → AllByRecursion (λ s. inn s.0 (map (λ t. t.0) (filter test rs)) ≡ test s) ss
    → AllByRecursion (λ s. inn s.0 (map (λ t. t.0) (filter test (r ∷ rs))) ≡ test s) ss
skip_row r test rs [] less all = tt
skip_row r test rs (s ∷ ss) less all = (
  (elim (test r) as (λ b. inn s.0 (map (λ t. t.0) (cond b (r ∷ filter test rs) (filter test rs))) ≡ test s) [
    | true ↦ ap (λ b. b || inn s.0 (map (λ t. t.0) (filter test rs))) (before_it s.0 r.0 less.0) ∙ all.0
    | false ↦ all.0
  ]),
  skip_row r test rs ss less.1 all.1,
)

pub are_placed : (test : ℕ × List Cell → Bool) (rows : List (ℕ × List Cell)) → PlacesRise rows → AllByRecursion (λ s. inn s.0 (map (λ t. t.0) (filter test rows)) ≡ test s) rows
are_placed test [] rise = tt
are_placed test (r ∷ rs) rise = (
  (elim (test r) as (λ b. inn r.0 (map (λ t. t.0) (cond b (r ∷ filter test rs) (filter test rs))) ≡ b) [
    | true ↦ ap (λ b. b || inn r.0 (map (λ t. t.0) (filter test rs))) (eq-eqb r.0 r.0 refl)
    | false ↦ not_after r.0 test rs rise.0
  ]),
  skip_row r test rs rs rise.0 (are_placed test rs rise.1),
)

pub value_places : (f : ℕ) (v : Value) (rows : List (ℕ × List Cell)) → PlacesRise rows → Selects (λ p. inn p (places_of f v rows)) (λ row. is_value v (value_of row f)) rows
value_places f v rows rise = are_placed (λ s. is_value v (value_of s.1 f)) rows rise

-- a set into which the places of the items so far were put
abbrev pub Joins : {X : Type 0} → (ℕ → Bool) → (X → List ℕ) → List X → Type 0
Joins set places xs = (p : ℕ) → set p ≡ list_any (λ x. inn p (places x)) xs

pub joins_more : {X : Type 0} (old now : ℕ → Bool) (places : X → List ℕ) (xs : List X) (i : ℕ) (x : X) (more : List ℕ) → i < length xs → get_or xs i x ≡ x → more ≡ places x → ((p : ℕ) → now p ≡ (old p || inn p more)) → Joins old places (take i xs) → Joins now places (take (i + 1) xs)
joins_more old now places xs i x more within here is put so_far p =
    put p ∙ ap (λ b. b || inn p more) (so_far p) ∙ ap (λ l. list_any (λ y. inn p (places y)) (take i xs) || inn p l) (is ∙ ap places (sym here)) ∙ sym (list_any_more (λ y. inn p (places y)) xs i x within)

or_nothing : (b : Bool) → b ≡ (b || false)
or_nothing true = refl
or_nothing false = refl

pub joins_same : {X : Type 0} (old : ℕ → Bool) (places : X → List ℕ) (xs : List X) (i : ℕ) (x : X) → i < length xs → get_or xs i x ≡ x → [] ≡ places x → Joins old places (take i xs) → Joins old places (take (i + 1) xs)
joins_same old places xs i x within here is so_far = joins_more old old places xs i x [] within here is (λ p. or_nothing (old p)) so_far

pub any_agree : {X : Type 0} (a b : X → Bool) (xs : List X) → ((x : X) → a x ≡ b x) → list_any a xs ≡ list_any b xs
any_agree a b [] same = refl
any_agree a b (x ∷ xs) same = rw (same x, any_agree a b xs same) refl

-- joined places of values that a test chooses are those of the rows that have such a value
abbrev pub chosen_places : ℕ → (Value → Bool) → List (ℕ × List Cell) → Value → List ℕ
chosen_places f test rows v = cond (test v) (places_of f v rows) []

pub in_chosen : (b : Bool) (p : ℕ) (places : List ℕ) → inn p (cond b places []) ≡ (b && inn p places)
in_chosen true p places = refl
in_chosen false p places = refl

pub same_value_is : (v w : Value) → is_value v (Some w) ≡ true → v ≡ w
same_value_is v w e = value_exact v w (equal_from (value_cmp v w) e)
  where
    equal_from : (r : Ordering) → is_eq r ≡ true → r ≡ Equal
    equal_from Less h = cc
    equal_from Equal h = refl
    equal_from Greater h = cc

none_has : (test : Value → Bool) (vs : List Value) → list_any (λ v. test v && is_value v None) vs ≡ false
none_has test [] = refl
none_has test (v ∷ vs) = rw (and_right (test v) false refl, none_has test vs) refl

not_chosen : (test : Value → Bool) (w : Value) (vs : List Value) → test w ≡ false → list_any (λ v. test v && is_value v (Some w)) vs ≡ false
not_chosen test w [] out = refl
not_chosen test w (v ∷ vs) out =
    let here : (test v && is_value v (Some w)) ≡ false =
    elim (is_value v (Some w)) as (λ b. is_value v (Some w) ≡ b → (test v && b) ≡ false) [
      | true ↦ λ same. and_left (test v) true (ap test (same_value_is v w same) ∙ out)
      | false ↦ λ _. and_right (test v) false refl
    ] refl in
    rw (here, not_chosen test w vs out) refl

pub list_any_at : {X : Type 0} (t : X → Bool) (xs : List X) (k : ℕ) (d : X) → k < length xs → t (get_or xs k d) ≡ true → list_any t xs ≡ true
list_any_at t [] k d within takes = absurd (omega arith)
list_any_at t (x ∷ xs) zero d within takes = or_left (t x) (list_any t xs) takes
list_any_at t (x ∷ xs) (suc k) d within takes = or_second (t x) (list_any t xs) (list_any_at t xs k d (omega arith) takes)

chosen_one : (test : Value → Bool) (w : Value) (vs : List Value) → test w ≡ true → Contains vs w → list_any (λ v. test v && is_value v (Some w)) vs ≡ true
chosen_one test w vs takes there =
    let here : (test w && is_value w (Some w)) ≡ true = and_from (test w) (is_value w (Some w)) takes (ap is_eq (tied_itself value_total w)) in
    list_any_at (λ v. test v && is_value v (Some w)) vs there.0 w there.1 (ap (λ v. test v && is_value v (Some w)) there.2 ∙ here)

pub has_chosen : (test : Value → Bool) (o : Option Value) (vs : List Value) → IfSome o (Contains vs) → list_any (λ v. test v && is_value v o) vs ≡ option_map_or test o false
has_chosen test None vs there = none_has test vs
has_chosen test (Some w) vs there =
    elim (test w) as (λ b. test w ≡ b → list_any (λ v. test v && is_value v (Some w)) vs ≡ b) [ true ↦ λ takes. chosen_one test w vs takes there | false ↦ λ out. not_chosen test w vs out ] refl

pub selects_at : (set : ℕ → Bool) (test : List Cell → Bool) (rows : List (ℕ × List Cell)) (k : ℕ) (d : ℕ × List Cell) → k < length rows → Selects set test rows → set (get_or rows k d).0 ≡ test (get_or rows k d).1
selects_at set test [] k d within all = absurd (omega arith)
selects_at set test (s ∷ ss) zero d within all = all.0
selects_at set test (s ∷ ss) (suc k) d within all = selects_at set test ss k d (omega arith) all.1

pub selects_from : (set : ℕ → Bool) (test : List Cell → Bool) (rows : List (ℕ × List Cell)) → ((k : ℕ) (d : ℕ × List Cell) → k < length rows → set (get_or rows k d).0 ≡ test (get_or rows k d).1) → Selects set test rows
selects_from set test [] each = tt
selects_from set test (s ∷ ss) each = (each 0 s (omega arith), selects_from set test ss (λ k d h. each (suc k) d (omega arith)))

pub joined_values : (set : ℕ → Bool) (f : ℕ) (test : Value → Bool) (rows : List (ℕ × List Cell)) (vs : List Value) → PlacesRise rows → All (λ s. IfSome (value_of s.1 f) (Contains vs)) rows → Joins set (chosen_places f test rows) vs → Selects set (λ row. option_map_or test (value_of row f) false) rows
joined_values set f test rows vs rise each joins =
    selects_from set (λ row. option_map_or test (value_of row f) false) rows (λ k d within.
    let s = get_or rows k d in
    joins s.0
    ∙ any_agree (λ v. inn s.0 (chosen_places f test rows v)) (λ v. test v && is_value v (value_of s.1 f)) vs
    (λ v. in_chosen (test v) s.0 (places_of f v rows) ∙ ap (λ b. test v && b) (selects_at (λ p. inn p (places_of f v rows)) (λ row. is_value v (value_of row f)) rows k d within (value_places f v rows rise)))
    ∙ has_chosen test (value_of s.1 f) vs (each k d within))

-- the places of the rows of some products
no_name : (names : List (List ℕ)) → list_any (λ _. false) names ≡ false
no_name [] = refl
no_name (n ∷ ns) = no_name ns

same_bytes : (n t : List ℕ) → is_value (Text n) (Some (Text t)) ≡ bytes_eq t n
same_bytes n t = ap is_eq (value_total.antisymm (Text n) (Text t)) ∙ back (value_cmp (Text t) (Text n)) ∙ is_eq-slice_cmp t n
  where
    back : (r : Ordering) → is_eq (ordering_reverse r) ≡ is_eq r
    back Less = refl
    back Equal = refl
    back Greater = refl

named : (names : List (List ℕ)) (o : Option Value) → list_any (λ n. is_value (Text n) o) names ≡ shows (OnlyProducts names) (text_of o)
named names None = no_name names
named names (Some (Text t)) = any_agree (λ n. is_value (Text n) (Some (Text t))) (bytes_eq t) names (λ n. same_bytes n t)
named names (Some (Number m)) = no_name names
named names (Some (Flag b)) = no_name names

pub joined_names : (set : ℕ → Bool) (names : List (List ℕ)) (rows : List (ℕ × List Cell)) → PlacesRise rows → Joins set (λ n. places_of product_field (Text n) rows) names → Selects set (λ row. shows (OnlyProducts names) (product_of row)) rows
joined_names set names rows rise joins =
    selects_from set (λ row. shows (OnlyProducts names) (product_of row)) rows (λ k d within.
    let s = get_or rows k d in
    joins s.0
    ∙ any_agree (λ n. inn s.0 (places_of product_field (Text n) rows)) (λ n. is_value (Text n) (value_of s.1 product_field)) names
    (λ n. selects_at (λ p. inn p (places_of product_field (Text n) rows)) (λ row. is_value (Text n) (value_of row product_field)) rows k d within (value_places product_field (Text n) rows rise))
    ∙ named names (value_of s.1 product_field))

-- sets that meet
pub selects_meet : (a b c : ℕ → Bool) (ta tb tc : List Cell → Bool) (rows : List (ℕ × List Cell)) → Selects a ta rows → Selects b tb rows → ((p : ℕ) → c p ≡ (a p && b p)) → ((row : List Cell) → tc row ≡ (ta row && tb row)) → Selects c tc rows
selects_meet a b c ta tb tc [] all other meet test = tt
selects_meet a b c ta tb tc (s ∷ ss) all other meet test = (meet s.0 ∙ ap (λ x. x && b s.0) all.0 ∙ ap (λ y. ta s.1 && y) other.0 ∙ sym (test s.1), selects_meet a b c ta tb tc ss all.1 other.1 meet test)

pub selects_less : (a b c : ℕ → Bool) (ta tb tc : List Cell → Bool) (rows : List (ℕ × List Cell)) → Selects a ta rows → Selects b tb rows → ((p : ℕ) → c p ≡ (a p && not (b p))) → ((row : List Cell) → tc row ≡ (ta row && not (tb row))) → Selects c tc rows
selects_less a b c ta tb tc [] all other meet test = tt
selects_less a b c ta tb tc (s ∷ ss) all other meet test = (meet s.0 ∙ ap (λ x. x && not (b s.0)) all.0 ∙ ap (λ y. ta s.1 && not y) other.0 ∙ sym (test s.1), selects_less a b c ta tb tc ss all.1 other.1 meet test)

pub selects_same : (a c : ℕ → Bool) (ta tc : List Cell → Bool) (rows : List (ℕ × List Cell)) → ((p : ℕ) → c p ≡ a p) → ((row : List Cell) → tc row ≡ ta row) → Selects a ta rows → Selects c tc rows
selects_same a c ta tc [] same test all = tt
selects_same a c ta tc (s ∷ ss) same test all = (same s.0 ∙ all.0 ∙ sym (test s.1), selects_same a c ta tc ss same test all.1)

-- two sets that select each row
pub selects_whole : (a c : ℕ → Bool) (ta : List Cell → Bool) (rows : List (ℕ × List Cell)) → ((p : ℕ) → a p ≡ true) → Selects c (λ _. true) rows → Selects a ta rows → Selects c ta rows
selects_whole a c ta [] whole each all = tt
selects_whole a c ta (s ∷ ss) whole each all = (each.0 ∙ sym (whole s.0) ∙ all.0, selects_whole a c ta ss whole each.1 all.1)

pub here_at : {X : Type 0} (xs : List X) (i : ℕ) (x : X) → slice_get xs i ≡ Some x → (i < length xs) × (get_or xs i x ≡ x)
here_at xs i x at = let within : i < length xs = slice_get_within xs i x at in (within, some-injective (sym (slice_get-get_or xs i x within) ∙ at))

-- one value more, which is chosen or not
pub chosen_more : (old now : ℕ → Bool) (f : ℕ) (test : Value → Bool) (rows : List (ℕ × List Cell)) (vs : List Value) (i : ℕ) (v : Value) (more : List ℕ) → slice_get vs i ≡ Some v → test v ≡ true → more ≡ places_of f v rows → ((p : ℕ) → now p ≡ (old p || inn p more)) → Joins old (chosen_places f test rows) (take i vs) → Joins now (chosen_places f test rows) (take (i + 1) vs)
chosen_more old now f test rows vs i v more at takes is put so_far =
    joins_more old now (chosen_places f test rows) vs i v more (here_at vs i v at).0 (here_at vs i v at).1 (is ∙ sym (ap (λ b. cond b (places_of f v rows) []) takes)) put so_far

pub chosen_over : (old now : ℕ → Bool) (f : ℕ) (test : Value → Bool) (rows : List (ℕ × List Cell)) (vs : List Value) (i : ℕ) (v : Value) → slice_get vs i ≡ Some v → test v ≡ false → ((p : ℕ) → now p ≡ old p) → Joins old (chosen_places f test rows) (take i vs) → Joins now (chosen_places f test rows) (take (i + 1) vs)
chosen_over old now f test rows vs i v at passes_over same so_far p =
    same p ∙ joins_same old (chosen_places f test rows) vs i v (here_at vs i v at).0 (here_at vs i v at).1 (sym (ap (λ b. cond b (places_of f v rows) []) passes_over)) so_far p

pub joined_all : {X : Type 0} (set : ℕ → Bool) (places : X → List ℕ) (xs : List X) (i : ℕ) → length xs ≤ i → Joins set places (take i xs) → Joins set places xs
joined_all set places xs i all so_far = subst (Joins set places) (take_all i xs all) so_far

pub ok_map : {A E : Type 0} (r : Result A E) (P Q : A → Type 0) → ((a : A) → P a → Q a) → IfOk r P → IfOk r Q
ok_map (Ok a) P Q step h = step a h
ok_map (Err e) P Q step h = tt

-- a run of the values: before it none is chosen, and behind it none
none_in : {X : Type 0} (t : X → Bool) (xs : List X) (n : ℕ) → ((k : ℕ) (d : X) → k < n → t (get_or xs k d) ≡ false) → list_any t (take n xs) ≡ false
none_in t [] zero none = refl
none_in t [] (suc n) none = refl
none_in t (x ∷ xs) zero none = refl
none_in t (x ∷ xs) (suc n) none = rw (none 0 x (omega arith), none_in t xs n (λ k d lt. none (suc k) d (omega arith))) refl

none_behind : {X : Type 0} (t : X → Bool) (xs : List X) (n : ℕ) → ((k : ℕ) (d : X) → n ≤ k → k < length xs → t (get_or xs k d) ≡ false) → list_any t (take n xs) ≡ list_any t xs
none_behind t [] zero none = refl
none_behind t [] (suc n) none = refl
none_behind t (x ∷ xs) zero none = rw (none 0 x (omega arith) (omega arith), sym (none_behind t xs zero (λ k d _ lt. none (suc k) d (omega arith) (omega arith)))) refl
none_behind t (x ∷ xs) (suc n) none = ap (λ b. t x || b) (none_behind t xs n (λ k d le lt. none (suc k) d (omega arith) (omega arith)))

not_joined : (f : ℕ) (test : Value → Bool) (rows : List (ℕ × List Cell)) (p : ℕ) (v : Value) → test v ≡ false → inn p (chosen_places f test rows v) ≡ false
not_joined f test rows p v out = ap (λ b. inn p (cond b (places_of f v rows) [])) out

pub run_begun : (set : ℕ → Bool) (f : ℕ) (test : Value → Bool) (rows : List (ℕ × List Cell)) (vs : List Value) (n : ℕ) → ((p : ℕ) → set p ≡ false) → ((k : ℕ) (d : Value) → k < n → test (get_or vs k d) ≡ false) → Joins set (chosen_places f test rows) (take n vs)
run_begun set f test rows vs n empty out p = empty p ∙ sym (none_in (λ v. inn p (chosen_places f test rows v)) vs n (λ k d lt. not_joined f test rows p (get_or vs k d) (out k d lt)))

pub run_ended : (set : ℕ → Bool) (f : ℕ) (test : Value → Bool) (rows : List (ℕ × List Cell)) (vs : List Value) (n i : ℕ) → n ≤ i → ((k : ℕ) (d : Value) → n ≤ k → k < length vs → test (get_or vs k d) ≡ false) → Joins set (chosen_places f test rows) (take i vs) → Joins set (chosen_places f test rows) vs
run_ended set f test rows vs n i all out so_far p = so_far p ∙ none_behind (λ v. inn p (chosen_places f test rows v)) vs i (λ k d le lt. not_joined f test rows p (get_or vs k d) (out k d (omega arith) lt))

-- the rows at some places whose value passes a test
places_kept : (q : Option Value → Bool) (f : ℕ) (test : ℕ × List Cell → Bool) (rows ss : List (ℕ × List Cell)) → AllByRecursion (λ s. row_at s.0 rows ≡ Some s) ss
    → filter (λ p. q (value_at p f rows)) (map (λ s. s.0) (filter test ss)) ≡ map (λ s. s.0) (filter (λ s. test s && q (value_of s.1 f)) ss)
places_kept q f test rows [] there = refl
places_kept q f test rows (s ∷ ss) there =
    let rest = places_kept q f test rows ss there.1 in
    let here : q (value_at s.0 f rows) ≡ q (value_of s.1 f) = ap (λ o. q (option_map_or (λ t. value_of t.1 f) o None)) there.0 in
    elim (test s) as (λ b. filter (λ p. q (value_at p f rows)) (map (λ t. t.0) (cond b (s ∷ filter test ss) (filter test ss))) ≡ map (λ t. t.0) (cond (b && q (value_of s.1 f)) (s ∷ filter (λ t. test t && q (value_of t.1 f)) ss) (filter (λ t. test t && q (value_of t.1 f)) ss))) [
      | true ↦ ap (λ b. cond b (s.0 ∷ filter (λ p. q (value_at p f rows)) (map (λ t. t.0) (filter test ss))) (filter (λ p. q (value_at p f rows)) (map (λ t. t.0) (filter test ss)))) here
          ∙ elim (q (value_of s.1 f)) as (λ b. cond b (s.0 ∷ filter (λ p. q (value_at p f rows)) (map (λ t. t.0) (filter test ss))) (filter (λ p. q (value_at p f rows)) (map (λ t. t.0) (filter test ss))) ≡ map (λ t. t.0) (cond b (s ∷ filter (λ t. test t && q (value_of t.1 f)) ss) (filter (λ t. test t && q (value_of t.1 f)) ss))) [
            | true ↦ ap (λ l. s.0 ∷ l) rest
            | false ↦ rest
          ]
      | false ↦ rest
    ]

pub places_met : (q : Option Value → Bool) (f : ℕ) (test : List Cell → Bool) (rows : List (ℕ × List Cell)) (places left : List ℕ) → PlacesRise rows → places ≡ map (λ s. s.0) (filter (λ s. test s.1) rows) → left ≡ filter (λ p. q (value_at p f rows)) places
    → left ≡ map (λ s. s.0) (filter (λ s. test s.1 && q (value_of s.1 f)) rows)
places_met q f test rows places left rise are is = is ∙ ap (filter (λ p. q (value_at p f rows))) are ∙ places_kept q f (λ s. test s.1) rows rows (all_there rows rise)

-- the set of the places of some rows selects them, and they are listed
pub listed_found : (held : ℕ → Bool) (test : List Cell → Bool) (rows : List (ℕ × List Cell)) (places : List ℕ) → PlacesRise rows → places ≡ map (λ s. s.0) (filter (λ s. test s.1) rows) → ((p : ℕ) → held p ≡ inn p places)
    → Selects held test rows × (places ≡ map (λ s. s.0) (filter (λ s. held s.0) rows))
listed_found held test rows places rise are puts =
    let selects : Selects held test rows = selects_same (λ p. inn p places) held test test rows puts (λ row. refl) (subst (λ l. Selects (λ p. inn p l) test rows) (sym are) (are_placed (λ s. test s.1) rows rise)) in
    (selects, are ∙ sym (ap (map (λ s. s.0)) (selected_rows held test rows selects)))

pub finds_same : (found : Selection) (t u : List Cell → Bool) (rows : List (ℕ × List Cell)) → ((row : List Cell) → u row ≡ t row) → Finds found t rows → Finds found u rows
finds_same found t u rows same finds = (selects_same (selected found.set) (selected found.set) t u rows (λ p. refl) same finds.0, finds.1)

-- the selected places among those of a value, where each selected row has it
kept_place : (set : ℕ → Bool) (s : ℕ × List Cell) (places : List ℕ) (ss : List (ℕ × List Cell)) → filter set places ≡ map (λ t. t.0) (filter (λ t. set t.0) ss) → filter set (s.0 ∷ places) ≡ map (λ t. t.0) (filter (λ t. set t.0) (s ∷ ss))
kept_place set s places ss rest =
    elim (set s.0) as (λ b. cond b (s.0 ∷ filter set places) (filter set places) ≡ map (λ t. t.0) (cond b (s ∷ filter (λ t. set t.0) ss) (filter (λ t. set t.0) ss))) [
      | true ↦ ap (λ l. s.0 ∷ l) rest
      | false ↦ rest
    ]

pub sole_rows : (set : ℕ → Bool) (test : List Cell → Bool) (f : ℕ) (v : Value) (rows : List (ℕ × List Cell)) → Selects set test rows → ((row : List Cell) → test row ≡ true → is_value v (value_of row f) ≡ true)
    → filter set (places_of f v rows) ≡ map (λ s. s.0) (filter (λ s. set s.0) rows)
sole_rows set test f v [] selects each = refl
sole_rows set test f v (s ∷ ss) selects each =
    let rest = sole_rows set test f v ss selects.1 each in
    elim (is_value v (value_of s.1 f)) as (λ b. is_value v (value_of s.1 f) ≡ b → filter set (map (λ t. t.0) (cond b (s ∷ rows_with f v ss) (rows_with f v ss))) ≡ map (λ t. t.0) (filter (λ t. set t.0) (s ∷ ss))) [
      | true ↦ λ _. kept_place set s (places_of f v ss) ss rest
      | false ↦ λ lacks. elim (set s.0) as (λ b. set s.0 ≡ b → filter set (places_of f v ss) ≡ map (λ t. t.0) (cond b (s ∷ filter (λ t. set t.0) ss) (filter (λ t. set t.0) ss))) [
        | true ↦ λ in_set. absurd (true≢false (sym (each s.1 (sym selects.0 ∙ in_set)) ∙ lacks))
        | false ↦ λ _. rest
      ] refl
    ] refl

-- where the rows are listed
pub listed_are : (set : ℕ → Bool) (rows : List (ℕ × List Cell)) (places : Option (Vec ℕ Global)) (list : Vec ℕ Global) → places ≡ Some list → AreListed set rows (option_map (λ v. v.items) places) → list.items ≡ map (λ s. s.0) (filter (λ s. set s.0) rows)
listed_are set rows places list is listed = subst (λ o. AreListed set rows (option_map (λ v. v.items) o)) is listed
