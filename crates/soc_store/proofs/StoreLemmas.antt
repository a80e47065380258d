-- What the kept postings say of a store.
use Rattle.std.proofs.Common.{◌≡◌, ◌≢◌, ◌+◌, ℕ, Bool, zero, suc, ◌<◌, List, [], ◌∷◌, Option, None, Some, Ok, Err, length, get_or, set, take, map, ap, sym, subst, ◌∙◌, refl, arith, true, false, cond}
use Rattle.std.specs.Prelude.{slice_get, option_map, insert, remove}
use Rattle.std.specs.Ordering.{nat_cmp, is_eq, ordering_reverse}
use Rattle.std.specs.declared.cmp.Ordering.{Ordering}
use Rattle.std.specs.declared.cmp.Ordering.TheVariants.{Less, Equal, Greater}
use Rattle.std.specs.List.{AllWithin, filter}
use Rattle.std.proofs.lemmas.Cmp.{nat_cmp_total, tied_itself}
use Rattle.std.proofs.lemmas.Map.Lookups.{exact_unsigned}
use Rattle.std.proofs.lemmas.Bool.{lt-ltb, le-ltb, eq-eqb, ne_eqb, cond_both}
use Rattle.soc_base.proofs.Folk.{equal_from}
use Rattle.soc_schema.specs.Rows.{value_of}
use Rattle.std.specs.List.{AllByRecursion}
use Rattle.std.specs.Option.{IfSome, option_map_or}
use Rattle.std.proofs.lemmas.List.{get_or_default, length-map, get_or-map, map-set, take_all}
use Rattle.std.proofs.lemmas.Option.{slice_get-map, slice_get-get_or}
use Rattle.soc_schema.specs.declared.value.Value.{Value}
use Rattle.soc_schema.specs.declared.value.Cell.{Cell}
use Rattle.soc_schema.specs.Orders.{value_cmp}
use Rattle.soc_schema.specs.Tables.{at_key, FindsKey}
use Rattle.soc_schema.specs.Values.{values_of, product_of}
use Rattle.soc_store.specs.Stored.{PlacesRise, rows_in, places_of, product_at, row_at, with_row, without_row}
use Rattle.soc_store.specs.inner.Postings.{Posting, AreKept, index_of, places_in, with_posting, without_posting, ArePostings}
use Rattle.soc_store.proofs.IndexLemmas.{value, map-insert, map-remove, postings_commute, postings_posted, postings_of_rows, without_posting-with_posting}
use Rattle.soc_store.proofs.Tables.{alter_found, alter_gap, prune_goes, prune_gap, at_key-found, at_key-gap, rising_alter, rising_prune, below_from, above_from, equal_at}
use Rattle.soc_store.proofs.RowIndexLemmas.{values_from_index, tells_rows, index_of-with_row, index_of-apart, with_old}

pub all_empty : (xs : List (List Posting)) → AllByRecursion (λ x. x ≡ []) xs → (f : ℕ) → get_or xs f [] ≡ []
all_empty [] all f = refl
all_empty (x ∷ xs) all zero = all.0
all_empty (x ∷ xs) all (suc f) = all_empty xs all.1 f

module _ (fields : List (List Posting)) (rows now : List (ℕ × List Cell)) (kept : PlacesRise rows × AreKept fields rows × (length fields ≡ 36)) (view : rows ≡ now) (at f : ℕ) (same : at ≡ f) (in_table : f < 36) (old : List Posting) where
  -- the field's postings are those of the rows
  pub field_kept : get_or fields at old ≡ index_of f now
  field_kept =
      let whole : length fields ≡ 36 = kept.2 in
      let lt : f < length fields = omega arith in
      ap (λ u. get_or fields u old) same ∙ get_or_default fields f old [] lt ∙ kept.1 f in_table ∙ ap (index_of f) view

  pub values_kept : map (λ (t : Posting). t.value) (get_or fields at old) ≡ values_of f now
  values_kept = ap (map value) field_kept ∙ values_from_index f now

  pub count_kept : length (get_or fields at old) ≡ length (values_of f now)
  count_kept = sym (length-map (get_or fields at old) value) ∙ ap length values_kept

  pub places_kept : (v : Value) → places_in (at_key (λ (t : Posting). t.value) value_cmp v (get_or fields at old)) ≡ places_of f v now
  places_kept v = ap (λ ts. places_in (at_key value value_cmp v ts)) field_kept ∙ tells_rows f v now (subst PlacesRise view kept.0)

  pub rows_kept : (i n : ℕ) → IfSome (slice_get (map (λ (t : Posting). t.value) (get_or fields at old)) i) (λ v. n ≡ length (places_in (at_key (λ (t : Posting). t.value) value_cmp v (get_or fields at old))))
      → IfSome (slice_get (values_of f now) i) (λ v. n ≡ length (places_of f v now))
  rows_kept i n given =
      subst (λ vs. IfSome (slice_get vs i) (λ v. n ≡ length (places_of f v now))) values_kept (each (slice_get (map value (get_or fields at old)) i) given)
    where
      each : (o : Option Value) → IfSome o (λ v. n ≡ length (places_in (at_key (λ (t : Posting). t.value) value_cmp v (get_or fields at old)))) → IfSome o (λ v. n ≡ length (places_of f v now))
      each None h = tt
      each (Some v) h = h ∙ ap length (places_kept v)

pub place_there : {E : Type 0} (place : E → ℕ) (row : E → List Cell) (es : List E) (now : List (ℕ × List Cell)) (i : ℕ) (e : E) → rows_in place row es ≡ now → i < length now → e ≡ get_or es i e → slice_get (map (λ s. s.0) now) i ≡ Some (place e)
place_there {E = E} place row es now i e view lt is =
    let pair : E → ℕ × List Cell = λ x. (place x, row x) in
    let lt_es : i < length es = subst (λ n. i < n) (ap length (sym view) ∙ length-map es pair) lt in
    let there : get_or now i (pair e) ≡ pair e = ap (λ l. get_or l i (pair e)) (sym view) ∙ get_or-map pair es i e (pair e) lt_es ∙ ap pair (sym is) in
    slice_get-map (λ (s : ℕ × List Cell). s.0) now i ∙ ap (option_map (λ (s : ℕ × List Cell). s.0)) (slice_get-get_or now i (pair e) lt) ∙ ap (λ (s : ℕ × List Cell). Some s.0) there

abbrev pub place_of : ℕ × List Cell → ℕ
place_of s = s.0

-- what one more row leaves of a field's postings
pub inserted : (f p : ℕ) (row : List Cell) (rows : List (ℕ × List Cell)) → PlacesRise rows → row_at p rows ≡ None → with_posting (value_of row f) p (index_of f rows) ≡ index_of f (with_row (p, row) rows)
inserted f p row rows rise none =
    ap (with_posting (value_of row f) p) (index_of-apart f p rows rise ∙ ap (λ o. with_old f o (index_of f (without_row p rows))) none) ∙ sym (index_of-with_row f (p, row) rows)

-- one row less
pub removed : (f p : ℕ) (old : List Cell) (rows : List (ℕ × List Cell)) → PlacesRise rows → row_at p rows ≡ Some (p, old) → without_posting (value_of old f) p (index_of f rows) ≡ index_of f (without_row p rows)
removed f p old rows rise there =
    ap (without_posting (value_of old f) p) (index_of-apart f p rows rise ∙ ap (λ o. with_old f o (index_of f (without_row p rows))) there)
    ∙ without_posting-with_posting (value_of old f) p (index_of f (without_row p rows)) (postings_of_rows f (without_row p rows))

-- one more in the stead of another
pub replaced : (f p : ℕ) (row old : List Cell) (rows : List (ℕ × List Cell)) → PlacesRise rows → row_at p rows ≡ Some (p, old)
    → without_posting (value_of old f) p (with_posting (value_of row f) p (index_of f rows)) ≡ index_of f (with_row (p, row) rows)
replaced f p row old rows rise there =
    let rest = index_of f (without_row p rows) in
    ap (λ ts. without_posting (value_of old f) p (with_posting (value_of row f) p ts)) (index_of-apart f p rows rise ∙ ap (λ o. with_old f o rest) there)
    ∙ ap (without_posting (value_of old f) p) (postings_commute (value_of row f) (value_of old f) p p rest)
    ∙ without_posting-with_posting (value_of old f) p (with_posting (value_of row f) p rest) (postings_posted (value_of row f) p rest (postings_of_rows f (without_row p rows)))
    ∙ sym (index_of-with_row f (p, row) rows)

pub rise_with : (p : ℕ) (row : List Cell) (rows : List (ℕ × List Cell)) → PlacesRise rows → PlacesRise (with_row (p, row) rows)
rise_with p row rows rise = rising_alter place_of nat_cmp_total p (λ _. (p, row)) (λ _. refl) rows rise

pub rise_without : (p : ℕ) (rows : List (ℕ × List Cell)) → PlacesRise rows → PlacesRise (without_row p rows)
rise_without p rows rise = rising_prune place_of nat_cmp_total p (λ _. None) (λ _. tt) rows rise

module _ {E : Type 0} (place : E → ℕ) (row : E → List Cell) (es : List E) (p i : ℕ) where
  abbrev pair : E → ℕ × List Cell
  pair e = (place e, row e)

  at_entry : (e : E) → i < length es → e ≡ get_or es i e → pair e ≡ get_or (map pair es) i (pair e)
  at_entry e lt is = ap pair is ∙ sym (get_or-map pair es i e (pair e) lt)

  in_rows : i < length es → i < length (map pair es)
  in_rows lt = subst (λ n. i < n) (sym (length-map es pair)) lt

  in_entries : i < length (map pair es) → i < length es
  in_entries lt = subst (λ n. i < n) (length-map es pair) lt

  pub less_entries : (e : E) → PlacesRise (rows_in place row es) → i < length es → e ≡ get_or es i e → place (get_or es i e) < p → AllWithin (λ (s : ℕ × List Cell). nat_cmp s.0 p ≡ Less) (rows_in place row es) 0 (i + 1)
  less_entries e rise lt is under =
      let less : place e < p = subst (λ u. place u < p) (sym is) under in
      below_from place_of nat_cmp_total p (map pair es) i (pair e) rise (in_rows lt) (subst (λ (s : ℕ × List Cell). nat_cmp s.0 p ≡ Less) (at_entry e lt is) (rw (lt-ltb (place e) p less) refl))

  pub greater_entries : (e : E) → PlacesRise (rows_in place row es) → i < length es → e ≡ get_or es i e → p < place (get_or es i e) → AllWithin (λ (s : ℕ × List Cell). nat_cmp s.0 p ≡ Greater) (rows_in place row es) i (length (rows_in place row es))
  greater_entries e rise lt is over =
      let more : p < place e = subst (λ u. p < place u) (sym is) over in
      let differs : place e ≢ p = omega arith in
      above_from place_of nat_cmp_total p (map pair es) i (pair e) rise (in_rows lt) (subst (λ (s : ℕ × List Cell). nat_cmp s.0 p ≡ Greater) (at_entry e lt is) (rw (le-ltb (place e) p (omega arith), ne_eqb (place e) p differs) refl))

  pub equal_entries : (e : E) → i < length es → e ≡ get_or es i e → place e ≡ p → FindsKey (λ (s : ℕ × List Cell). s.0) nat_cmp p (rows_in place row es) (Ok i)
  equal_entries e lt is same =
      (in_rows lt, equal_at place_of nat_cmp_total p (map pair es) i (pair e) (in_rows lt) (at_entry e lt is) (rw (le-ltb (place e) p (omega arith), eq-eqb (place e) p same) refl))

  module _ (e : E) (found : FindsKey (λ (s : ℕ × List Cell). s.0) nat_cmp p (rows_in place row es) (Ok i)) (is : e ≡ get_or es i e) where
    here : pair e ≡ get_or (map pair es) i (pair e)
    here = at_entry e (in_entries found.0) is

    tied : nat_cmp (place e) p ≡ Equal
    tied = subst (λ (s : ℕ × List Cell). nat_cmp s.0 p ≡ Equal) (sym here) (found.1 (pair e))

    same_place : place e ≡ p
    same_place = exact_unsigned (place e) p tied

    pub row_found : PlacesRise (rows_in place row es) → row_at p (rows_in place row es) ≡ Some (p, row e)
    row_found rise = at_key-found place_of nat_cmp_total p (map pair es) i (pair e) rise found.0 here tied ∙ ap (λ q. Some (q, row e)) same_place

    pub rows_set : (e' : E) → PlacesRise (rows_in place row es) → place e' ≡ place e → rows_in place row (set es i e') ≡ with_row (p, row e') (rows_in place row es)
    rows_set e' rise kept =
        map-set pair es i e' ∙ ap (λ q. set (map pair es) i (q, row e')) (kept ∙ same_place)
        ∙ sym (alter_found place_of nat_cmp_total p (λ _. (p, row e')) (map pair es) i (pair e) rise found.0 here tied)

    pub rows_remove : PlacesRise (rows_in place row es) → rows_in place row (remove es i) ≡ without_row p (rows_in place row es)
    rows_remove rise = map-remove pair es i ∙ sym (prune_goes place_of nat_cmp_total p (λ _. None) (map pair es) i (pair e) rise found.0 here tied refl)

  module _ (missing : FindsKey (λ (s : ℕ × List Cell). s.0) nat_cmp p (rows_in place row es) (Err i)) where
    pub row_missing : row_at p (rows_in place row es) ≡ None
    row_missing = at_key-gap place_of nat_cmp_total p (map pair es) i missing.0 missing.1

    pub rows_insert : (e : E) → place e ≡ p → rows_in place row (insert es i e) ≡ with_row (p, row e) (rows_in place row es)
    rows_insert e same = map-insert pair es i e ∙ ap (λ q. insert (map pair es) i (q, row e)) same ∙ sym (alter_gap place_of nat_cmp_total p (λ _. (p, row e)) (map pair es) i missing.0 missing.1)

    pub rows_same : rows_in place row es ≡ without_row p (rows_in place row es)
    rows_same = sym (prune_gap place_of nat_cmp_total p (λ _. None) (map pair es) i missing.0 missing.1)

-- the row at a place, or none
pub no_row : (o : Option (ℕ × List Cell)) → None ≡ option_map (λ (s : ℕ × List Cell). s.1) o → o ≡ None
no_row None e = refl
no_row (Some s) e = cc

pub at_place : (p : ℕ) (rows : List (ℕ × List Cell)) (row : List Cell) → Some row ≡ option_map (λ (s : ℕ × List Cell). s.1) (row_at p rows) → row_at p rows ≡ Some (p, row)
at_place p [] row e = cc
at_place p (t ∷ ts) row e =
    elim (is_eq (nat_cmp p t.0)) as (λ b. is_eq (nat_cmp p t.0) ≡ b → Some row ≡ option_map (λ (s : ℕ × List Cell). s.1) (cond b (Some t) (row_at p ts)) → cond b (Some t) (row_at p ts) ≡ Some (p, row)) [
      | true ↦ λ tied is. let same : p ≡ t.0 = exact_unsigned p t.0 (equal_from (nat_cmp p t.0) tied) in let own : t.1 ≡ row = cc in ap (λ q. Some (q, t.1)) (sym same) ∙ ap (λ r. Some (p, r)) own
      | false ↦ λ _ is. at_place p ts row is
    ] refl e

-- what the calls leave of the postings
module _ (rows : List (ℕ × List Cell)) (fields : List (List Posting)) (kept : PlacesRise rows × AreKept fields rows × (length fields ≡ 36)) (p : ℕ) where
  pub postings_kept : (f : ℕ) → f < 36 → ArePostings (get_or fields f [])
  postings_kept f lt = subst ArePostings (sym (kept.1 f lt)) (postings_of_rows f rows)

  whole : (n : ℕ) (old : List Cell) → n ≡ length old → take n old ≡ old
  whole n old all = take_all n old (omega arith)

  pub kept_removed : (new : List (List Posting)) (old : List Cell) (n : ℕ) → row_at p rows ≡ Some (p, old) → n ≡ length old
      → ((f : ℕ) → get_or new f [] ≡ without_posting (value_of (take n old) f) p (get_or fields f [])) → AreKept new (without_row p rows)
  kept_removed new old n there all is f lt =
      is f ∙ ap (λ c. without_posting (value_of c f) p (get_or fields f [])) (whole n old all)
      ∙ ap (without_posting (value_of old f) p) (kept.1 f lt) ∙ removed f p old rows kept.0 there

  module _ (row : List Cell) (more : List (List Posting)) (added : (f : ℕ) → f < 36 → get_or more f [] ≡ with_posting (value_of row f) p (get_or fields f [])) where
    added_to : (f : ℕ) → f < 36 → get_or more f [] ≡ with_posting (value_of row f) p (index_of f rows)
    added_to f lt = added f lt ∙ ap (with_posting (value_of row f) p) (kept.1 f lt)

    pub kept_inserted : row_at p rows ≡ None → AreKept more (with_row (p, row) rows)
    kept_inserted none f lt = added_to f lt ∙ inserted f p row rows kept.0 none

    pub kept_replaced : (new : List (List Posting)) (old : List Cell) (n : ℕ) → row_at p rows ≡ Some (p, old) → n ≡ length old
        → ((f : ℕ) → get_or new f [] ≡ without_posting (value_of (take n old) f) p (get_or more f [])) → AreKept new (with_row (p, row) rows)
    kept_replaced new old n there all is f lt =
        is f ∙ ap (λ c. without_posting (value_of c f) p (get_or more f [])) (whole n old all)
        ∙ ap (without_posting (value_of old f) p) (added_to f lt) ∙ replaced f p row old rows kept.0 there

    pub kept_undone : (new : List (List Posting)) (same : List Cell) (n : ℕ) → same ≡ row → n ≡ length same
        → ((f : ℕ) → get_or new f [] ≡ without_posting (value_of (take n same) f) p (get_or more f [])) → AreKept new rows
    kept_undone new same n one all is f lt =
        is f ∙ ap (λ c. without_posting (value_of c f) p (get_or more f [])) (whole n same all ∙ one)
        ∙ ap (without_posting (value_of row f) p) (added_to f lt)
        ∙ without_posting-with_posting (value_of row f) p (index_of f rows) (postings_of_rows f rows)

above_some : (P : ℕ × List Cell → Type 0) (test : ℕ × List Cell → Bool) (rows : List (ℕ × List Cell)) → AllByRecursion P rows → AllByRecursion P (filter test rows)
above_some P test [] all = tt
above_some P test (s ∷ ss) all =
    cond_both (test s) (s ∷ filter test ss) (filter test ss) (AllByRecursion P) (λ _. (all.0, above_some P test ss all.1)) (λ _. above_some P test ss all.1)

-- a row below others changes nothing at their places
products_above : (s : ℕ × List Cell) (rows ts : List (ℕ × List Cell)) → AllByRecursion (λ t. nat_cmp s.0 t.0 ≡ Less) ts → map (product_at (s ∷ rows)) (map (λ t. t.0) ts) ≡ map (product_at rows) (map (λ t. t.0) ts)
products_above s rows [] above = refl
products_above s rows (t ∷ ts) above =
    let apart : is_eq (nat_cmp t.0 s.0) ≡ false = ap is_eq (nat_cmp_total.antisymm t.0 s.0 ∙ ap ordering_reverse above.0) in
    let there : product_at (s ∷ rows) t.0 ≡ product_at rows t.0 = ap (λ b. option_map_or (λ u. product_of u.1) (cond b (Some s) (row_at t.0 rows)) None) apart in
    ap (λ q. q ∷ map (product_at (s ∷ rows)) (map (λ u. u.0) ts)) there ∙ ap (λ l. product_at rows t.0 ∷ l) (products_above s rows ts above.1)

-- the products of the rows at the places of some rows
pub products_there : (rows : List (ℕ × List Cell)) (test : ℕ × List Cell → Bool) → PlacesRise rows → map (product_at rows) (map (λ s. s.0) (filter test rows)) ≡ map (λ s. product_of s.1) (filter test rows)
products_there [] test rise = refl
products_there (s ∷ ss) test rise =
    let rest : map (product_at (s ∷ ss)) (map (λ t. t.0) (filter test ss)) ≡ map (λ t. product_of t.1) (filter test ss) =
    products_above s ss (filter test ss) (above_some (λ t. nat_cmp s.0 t.0 ≡ Less) test ss rise.0) ∙ products_there ss test rise.1 in
    let here : product_at (s ∷ ss) s.0 ≡ product_of s.1 = ap (λ b. option_map_or (λ u. product_of u.1) (cond b (Some s) (row_at s.0 ss)) None) (ap is_eq (tied_itself nat_cmp_total s.0)) in
    cond_both (test s) (s ∷ filter test ss) (filter test ss) (λ l. map (product_at (s ∷ ss)) (map (λ t. t.0) l) ≡ map (λ t. product_of t.1) l)
    (λ _. ap (λ q. q ∷ map (product_at (s ∷ ss)) (map (λ t. t.0) (filter test ss))) here ∙ ap (λ l. product_of s.1 ∷ l) rest) (λ _. rest)

pub entry_count : {E : Type 0} (place : E → ℕ) (row : E → List Cell) (es : List E) → length (rows_in place row es) ≡ length es
entry_count {E = E} place row es = let pair : E → ℕ × List Cell = λ x. (place x, row x) in length-map es pair
