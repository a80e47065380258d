-- The rows that a query counts, by their places.
use Rattle.std.proofs.Common.{◌≡◌, ◌≢◌, ℕ, zero, suc, ◌+◌, ◌<◌, ◌≤◌, eqb, Bool, true, false, cond, List, [], ◌∷◌, ◌++◌, Option, None, Some, Result, Ok, Err, MatchResult, length, map, filter, take, get_or, refl, sym, ap, ◌∙◌, arith, subst, ◌⊎◌, ⊎_elim}
use Rattle.std.specs.Prelude.{◌&&◌, ◌||◌, count_by, is_ok}
use Rattle.std.proofs.lemmas.Bool.{eq-eqb, ne_eqb, and_parts, cases_lt}
use Rattle.std.proofs.lemmas.List.Elements.{filter_agree, filter_more}
use Rattle.std.proofs.lemmas.List.{take_all}
use Rattle.std.specs.List.{AllByRecursion, list_any}
use Rattle.std.specs.List.Sorted.{IsNonDecreasing}
use Rattle.std.specs.Option.{option_map_or}
use Rattle.std.specs.Ordering.{nat_cmp}
use Rattle.std.specs.declared.cmp.Ordering.TheVariants.{Less}
use Rattle.soc_base.proofs.Folk.{all_get}
use Rattle.soc_schema.specs.declared.value.Value.{Value}
use Rattle.soc_schema.specs.declared.value.Value.TheVariants.{Text}
use Rattle.soc_schema.specs.declared.value.Cell.{Cell}
use Rattle.soc_schema.specs.Rows.{value_of}
use Rattle.soc_schema.specs.Fields.{product_field, version_field}
use Rattle.soc_schema.specs.Permits.{shows}
use Rattle.soc_schema.specs.Values.{is_value, product_of, rows_with, text_of}
use Rattle.soc_store.specs.Stored.{PlacesRise, places_of, row_at}
use Rattle.soc_tops.specs.declared.query.Days.{Days}
use Rattle.soc_tops.specs.declared.query.TopsQuery.{TopsQuery}
use Rattle.soc_tops.specs.Tops.{is_asked, is_within, rows_between}
use Rattle.soc_search.specs.inner.Selections.{row_of}
use Rattle.soc_search.proofs.FacetLemmas.{count_matching}
use Rattle.soc_search.proofs.HitLemmas.{all_there}
use Rattle.soc_search.proofs.OrderLemmas.{less_from, tied_same}

-- the row at a place, if there is one, passes the test
abbrev pub passes_at : (List Cell → Bool) → List (ℕ × List Cell) → ℕ → Bool
passes_at test rows p = option_map_or test (row_of rows p) false

kept_there : (test : List Cell → Bool) (rows : List (ℕ × List Cell)) (s : ℕ × List Cell) (places : List ℕ) (ss : List (ℕ × List Cell)) → row_at s.0 rows ≡ Some s → filter (passes_at test rows) places ≡ map (λ t. t.0) (filter (λ t. test t.1) ss)
    → filter (passes_at test rows) (s.0 ∷ places) ≡ map (λ t. t.0) (filter (λ t. test t.1) (s ∷ ss))
kept_there test rows s places ss there rest =
    let here : passes_at test rows s.0 ≡ test s.1 = ap (λ o. option_map_or test (option_of o) false) there in
    ap (λ b. cond b (s.0 ∷ filter (passes_at test rows) places) (filter (passes_at test rows) places)) here
    ∙ elim (test s.1) as (λ b. cond b (s.0 ∷ filter (passes_at test rows) places) (filter (passes_at test rows) places) ≡ map (λ t. t.0) (cond b (s ∷ filter (λ t. test t.1) ss) (filter (λ t. test t.1) ss))) [
      | true ↦ ap (λ l. s.0 ∷ l) rest
      | false ↦ rest
    ]
  where
    option_of : Option (ℕ × List Cell) → Option (List Cell)
    option_of None = None
    option_of (Some t) = Some t.1

kept_value : (test : List Cell → Bool) (f : ℕ) (v : Value) (rows ss : List (ℕ × List Cell)) → ((row : List Cell) → test row ≡ true → is_value v (value_of row f) ≡ true) → AllByRecursion (λ s. row_at s.0 rows ≡ Some s) ss
    → filter (passes_at test rows) (places_of f v ss) ≡ map (λ s. s.0) (filter (λ s. test s.1) ss)
kept_value test f v rows [] has_it there = refl
kept_value test f v rows (s ∷ ss) has_it there =
    let rest = kept_value test f v rows ss has_it there.1 in
    elim (is_value v (value_of s.1 f)) as (λ b. is_value v (value_of s.1 f) ≡ b → filter (passes_at test rows) (map (λ t. t.0) (cond b (s ∷ rows_with f v ss) (rows_with f v ss))) ≡ map (λ t. t.0) (filter (λ t. test t.1) (s ∷ ss))) [
      | true ↦ λ _. kept_there test rows s (places_of f v ss) ss there.0 rest
      | false ↦ λ lacks. elim (test s.1) as (λ b. test s.1 ≡ b → filter (passes_at test rows) (places_of f v ss) ≡ map (λ t. t.0) (cond b (s ∷ filter (λ t. test t.1) ss) (filter (λ t. test t.1) ss))) [
        | true ↦ λ passes. let both : is_value v (value_of s.1 f) ≡ true = has_it s.1 passes in absurd (let e : true ≡ false = sym both ∙ lacks in cc)
        | false ↦ λ _. rest
      ] refl
    ] refl

-- a query's test asks for its product and for its version
asks_product : (q : TopsQuery) (days : Days) (row : List Cell) → is_asked q days row ≡ true → is_value (Text q.product) (value_of row product_field) ≡ true
asks_product q days row e =
    let parts : (is_value (Text q.product) (value_of row product_field) ≡ true) × ((is_value (Text q.version) (value_of row version_field) && is_within days row) ≡ true) = and_parts _ _ e in
    parts.0

asks_version : (q : TopsQuery) (days : Days) (row : List Cell) → is_asked q days row ≡ true → is_value (Text q.version) (value_of row version_field) ≡ true
asks_version q days row e =
    let parts : (is_value (Text q.product) (value_of row product_field) ≡ true) × ((is_value (Text q.version) (value_of row version_field) && is_within days row) ≡ true) = and_parts _ _ e in
    let more : (is_value (Text q.version) (value_of row version_field) ≡ true) × (is_within days row ≡ true) = and_parts _ _ parts.1 in
    more.0

product_from : (t : List ℕ) (o : Option Value) → is_value (Text t) o ≡ true → text_of o ≡ Some t
product_from t None e = cc
product_from t (Some w) e = ap (λ v. text_of (Some v)) (sym (tied_same (Text t) w e))

shown_or : (q : TopsQuery) (days : Days) (visible : Bool) → shows q.caller.products (Some q.product) ≡ visible → (row : List Cell)
    → (shows q.caller.products (product_of row) && is_asked q days row) ≡ (visible && is_asked q days row)
shown_or q days visible is row =
    elim (is_asked q days row) as (λ b. is_asked q days row ≡ b → (shows q.caller.products (product_of row) && b) ≡ (visible && b)) [
      | true ↦ λ asked. ap (λ b. b && true) (ap (shows q.caller.products) (product_from q.product (value_of row product_field) (asks_product q days row asked)) ∙ is)
      | false ↦ λ _. never (shows q.caller.products (product_of row)) ∙ sym (never visible)
    ] refl
  where
    never : (b : Bool) → (b && false) ≡ false
    never true = refl
    never false = refl

-- where the product is shown the rows are those that are asked
pub shown_rows : (q : TopsQuery) (days : Days) (rows : List (ℕ × List Cell)) → shows q.caller.products (Some q.product) ≡ true → rows_between q days rows ≡ filter (λ s. is_asked q days s.1) rows
shown_rows q days rows is = filter_agree (λ s. shows q.caller.products (product_of s.1) && is_asked q days s.1) (λ s. is_asked q days s.1) (λ s. shown_or q days true is s.1) rows

none_kept : {X : Type 0} (xs : List X) → filter (λ _. false) xs ≡ []
none_kept [] = refl
none_kept (x ∷ xs) = none_kept xs

-- and where it isn't there are none
pub hidden_rows : (q : TopsQuery) (days : Days) (rows : List (ℕ × List Cell)) → shows q.caller.products (Some q.product) ≡ false → [] ≡ map (λ s. s.0) (rows_between q days rows)
hidden_rows q days rows is =
    sym (ap (map (λ s. s.0)) (filter_agree (λ s. shows q.caller.products (product_of s.1) && is_asked q days s.1) (λ _. false) (λ s. shown_or q days false is s.1) rows ∙ none_kept rows))

-- the rows that are asked among those of the product or of the version
pub asked_among : (q : TopsQuery) (days : Days) (rows : List (ℕ × List Cell)) (places : List ℕ) → PlacesRise rows → shows q.caller.products (Some q.product) ≡ true
    → (places ≡ places_of product_field (Text q.product) rows) ⊎ (places ≡ places_of version_field (Text q.version) rows)
    → filter (passes_at (is_asked q days) rows) places ≡ map (λ s. s.0) (rows_between q days rows)
asked_among q days rows places rise is either =
    ⊎_elim
    (λ (e : places ≡ places_of product_field (Text q.product) rows). ap (filter (passes_at (is_asked q days) rows)) e
    ∙ kept_value (is_asked q days) product_field (Text q.product) rows rows (asks_product q days) (all_there rows rise))
    (λ (e : places ≡ places_of version_field (Text q.version) rows). ap (filter (passes_at (is_asked q days) rows)) e
    ∙ kept_value (is_asked q days) version_field (Text q.version) rows rows (asks_version q days) (all_there rows rise))
    either
    ∙ ap (map (λ s. s.0)) (sym (shown_rows q days rows is))

-- one place more of those that are kept
pub kept_more : (test : ℕ → Bool) (places : List ℕ) (i p : ℕ) (done now : List ℕ) → i < length places → get_or places i p ≡ p → done ≡ filter test (take i places) → now ≡ done ++ cond (test p) (p ∷ []) [] → now ≡ filter test (take (i + 1) places)
kept_more test places i p done now within here so_far put =
    put ∙ ap (λ l. l ++ cond (test p) (p ∷ []) []) so_far
    ∙ sym (filter_more test places i p within ∙ ap (λ q. filter test (take i places) ++ cond (test q) (q ∷ []) []) here)

-- the places of rows rise
above : (p : ℕ) (test : ℕ × List Cell → Bool) (ss : List (ℕ × List Cell)) → AllByRecursion (λ s. nat_cmp p s.0 ≡ Less) ss → AllByRecursion (λ q. p < q) (map (λ s. s.0) (filter test ss))
above p test [] less = tt
above p test (s ∷ ss) less =
    elim (test s) as (λ b. AllByRecursion (λ q. p < q) (map (λ t. t.0) (cond b (s ∷ filter test ss) (filter test ss)))) [
      | true ↦ (less_from p s.0 less.0, above p test ss less.1)
      | false ↦ above p test ss less.1
    ]

rise_cons : (p : ℕ) (ps : List ℕ) → AllByRecursion (λ q. p < q) ps → IsNonDecreasing ps → IsNonDecreasing (p ∷ ps)
rise_cons p ps all rise zero zero d le h = omega arith
rise_cons p ps all rise zero (suc j) d le h = let lt : p < get_or ps j d = all_get (λ q. p < q) ps j d all (omega arith) in omega arith
rise_cons p ps all rise (suc i) zero d le h = absurd (omega arith)
rise_cons p ps all rise (suc i) (suc j) d le h = rise i j d (omega arith) (omega arith)

pub places_rise : (test : ℕ × List Cell → Bool) (rows : List (ℕ × List Cell)) → PlacesRise rows → IsNonDecreasing (map (λ s. s.0) (filter test rows))
places_rise test [] rise = λ i j d le h. absurd (omega arith)
places_rise test (s ∷ ss) rise =
    elim (test s) as (λ b. IsNonDecreasing (map (λ t. t.0) (cond b (s ∷ filter test ss) (filter test ss)))) [
      | true ↦ rise_cons s.0 (map (λ t. t.0) (filter test ss)) (above s.0 test ss rise.0) (places_rise test ss rise.1)
      | false ↦ places_rise test ss rise.1
    ]

-- a place stands in a list
abbrev pub stands_in : List ℕ → ℕ → Bool
stands_in places p = list_any (λ q. eqb q p) places

not_above : (p : ℕ) (ps : List ℕ) → AllByRecursion (λ q. p < q) ps → stands_in ps p ≡ false
not_above p [] all = refl
not_above p (q ∷ qs) all = let ne : q ≢ p = omega (arith, all.0) in ap (λ b. b || stands_in qs p) (ne_eqb q p ne) ∙ not_above p qs all.1

-- the place of a row is among those of the rows that pass the test exactly where the row does
agree_more : (e : ℕ × List Cell) (test : ℕ × List Cell → Bool) (M : List ℕ) (ss : List (ℕ × List Cell)) → AllByRecursion (λ s. nat_cmp e.0 s.0 ≡ Less) ss → AllByRecursion (λ s. stands_in M s.0 ≡ test s) ss
    → AllByRecursion (λ s. stands_in (cond (test e) (e.0 ∷ M) M) s.0 ≡ test s) ss
agree_more e test M [] less agree = tt
agree_more e test M (s ∷ ss) less agree = (
  elim (test e) as (λ b. stands_in (cond b (e.0 ∷ M) M) s.0 ≡ test s) [
    | true ↦ let lt : e.0 < s.0 = less_from e.0 s.0 less.0 in let ne : e.0 ≢ s.0 = omega arith in ap (λ b. b || stands_in M s.0) (ne_eqb e.0 s.0 ne) ∙ agree.0
    | false ↦ agree.0
  ],
  agree_more e test M ss less.1 agree.1,
)

kept_places : (test : ℕ × List Cell → Bool) (e : ℕ × List Cell) (es : List (ℕ × List Cell)) → map (λ s. s.0) (filter test (e ∷ es)) ≡ cond (test e) (e.0 ∷ map (λ s. s.0) (filter test es)) (map (λ s. s.0) (filter test es))
kept_places test e es =
    elim (test e) as (λ b. map (λ s. s.0) (cond b (e ∷ filter test es) (filter test es)) ≡ cond b (e.0 ∷ map (λ s. s.0) (filter test es)) (map (λ s. s.0) (filter test es))) [
      | true ↦ refl
      | false ↦ refl
    ]

agree_all : (test : ℕ × List Cell → Bool) (rows : List (ℕ × List Cell)) → PlacesRise rows → AllByRecursion (λ s. stands_in (map (λ t. t.0) (filter test rows)) s.0 ≡ test s) rows
agree_all test [] rise = tt
agree_all test (e ∷ es) rise =
    let M : List ℕ = map (λ t. t.0) (filter test es) in
    subst (λ l. AllByRecursion (λ s. stands_in l s.0 ≡ test s) (e ∷ es)) (sym (kept_places test e es)) (
      elim (test e) as (λ b. stands_in (cond b (e.0 ∷ M) M) e.0 ≡ b) [
        | true ↦ ap (λ b. b || stands_in M e.0) (eq-eqb e.0 e.0 refl)
        | false ↦ not_above e.0 M (above e.0 test es rise.0)
      ],
      agree_more e test M es rise.0 (agree_all test es rise.1),
    )

-- of the places of a value as many are among those of the rows that pass the test as such rows have it
pub count_kept : (test : ℕ × List Cell → Bool) (f : ℕ) (v : Value) (rows : List (ℕ × List Cell)) (places : List ℕ) → PlacesRise rows → places ≡ map (λ s. s.0) (filter test rows)
    → count_by (stands_in places) (places_of f v rows) ≡ length (rows_with f v (filter test rows))
count_kept test f v rows places rise is =
    ap (λ l. count_by (stands_in l) (places_of f v rows)) is
    ∙ count_matching (stands_in (map (λ s. s.0) (filter test rows))) test f v rows (agree_all test rows rise)

-- of all values the counts
pub counts_are : (test : ℕ × List Cell → Bool) (f : ℕ) (vs : List Value) (i : ℕ) (rows : List (ℕ × List Cell)) (places : List ℕ) → PlacesRise rows → places ≡ map (λ s. s.0) (filter test rows) → length vs ≤ i
    → map (λ v. count_by (stands_in places) (places_of f v rows)) (take i vs) ≡ map (λ v. length (rows_with f v (filter test rows))) vs
counts_are test f vs i rows places rise is all = ap (map (λ v. count_by (stands_in places) (places_of f v rows))) (take_all i vs all) ∙ each vs
  where
    each : (vs : List Value) → map (λ v. count_by (stands_in places) (places_of f v rows)) vs ≡ map (λ v. length (rows_with f v (filter test rows))) vs
    each [] = refl
    each (w ∷ ws) = ap (λ n. n ∷ map (λ v. count_by (stands_in places) (places_of f v rows)) ws) (count_kept test f w rows places rise is) ∙ ap (λ l. length (rows_with f w (filter test rows)) ∷ l) (each ws)

stands_at : (xs : List ℕ) (i x : ℕ) → i < length xs → get_or xs i 0 ≡ x → stands_in xs x ≡ true
stands_at [] i x h e = absurd (omega arith)
stands_at (y ∷ ys) zero x h e = ap (λ b. b || stands_in ys x) (eq-eqb y x e)
stands_at (y ∷ ys) (suc i) x h e = ap (λ b. eqb y x || b) (stands_at ys i x (omega arith) e) ∙ always (eqb y x)
  where
    always : (b : Bool) → (b || true) ≡ true
    always true = refl
    always false = refl

stands_nowhere : (xs : List ℕ) (x : ℕ) → ((k : ℕ) → k < length xs → get_or xs k 0 ≢ x) → stands_in xs x ≡ false
stands_nowhere [] x apart = refl
stands_nowhere (y ∷ ys) x apart = ap (λ b. b || stands_in ys x) (ne_eqb y x (apart 0 (omega arith))) ∙ stands_nowhere ys x (λ k h. apart (suc k) (omega arith))

-- what a binary search answers
pub search_is : (xs : List ℕ) (x : ℕ) (r : Result ℕ ℕ) → MatchResult r (λ i. (i < length xs) × (get_or xs i 0 ≡ x)) (λ i. (i ≤ length xs) × ((k : ℕ) → k < i → get_or xs k 0 < x) × ((k : ℕ) → i ≤ k → k < length xs → x < get_or xs k 0))
    → is_ok r ≡ stands_in xs x
search_is xs x (Ok i) h = sym (stands_at xs i x h.0 h.1)
search_is xs x (Err i) h =
    sym (stands_nowhere xs x (λ k within. ⊎_elim (λ (lt : k < i). let less : get_or xs k 0 < x = h.1 k lt in omega arith) (λ (le : i ≤ k). let more : x < get_or xs k 0 = h.2 k le within in omega arith) (cases_lt k i)))
