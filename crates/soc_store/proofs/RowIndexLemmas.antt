-- What a field's postings say of the rows.
use Rattle.std.proofs.Common.{◌≡◌, ℕ, Bool, true, false, cond, List, [], ◌∷◌, Option, None, Some, map, ap, sym, subst, ◌∙◌, refl}
use Rattle.std.specs.List.{filter, AllByRecursion}
use Rattle.std.specs.Ordering.{is_eq, nat_cmp, match_ordering}
use Rattle.std.specs.declared.cmp.Ordering.{Ordering}
use Rattle.std.specs.declared.cmp.Ordering.TheVariants.{Less, Equal, Greater}
use Rattle.std.proofs.lemmas.Cmp.{ranked, nat_cmp_total}
use Rattle.std.proofs.lemmas.Bool.{lt-ltb, cond_both}
use Rattle.soc_base.proofs.Folk.{equal_from}
use Rattle.soc_schema.specs.declared.value.Value.{Value}
use Rattle.soc_schema.specs.declared.value.Cell.{Cell}
use Rattle.soc_schema.specs.Rows.{value_of}
use Rattle.soc_schema.specs.Orders.{value_cmp}
use Rattle.soc_schema.specs.Tables.{Rising, at_key, alter}
use Rattle.soc_schema.specs.Values.{is_value, rows_with, values_of, with_distinct}
use Rattle.soc_store.specs.Stored.{PlacesRise, with_row, without_row, row_at}
use Rattle.soc_store.specs.inner.Postings.{Posting, posted, with_posting, with_place, places_in, index_of}
use Rattle.soc_store.proofs.Tables.{at_key-same, at_key-other, keys_alter}
use Rattle.soc_schema.proofs.OrderLemmas.{value_total, value_exact}
use Rattle.soc_store.proofs.IndexLemmas.{rising_posting, postings_commute, value}

pub rising_index : (f : ℕ) (rows : List (ℕ × List Cell)) → Rising (λ (t : Posting). t.value) value_cmp (index_of f rows)
rising_index f [] = tt
rising_index f (s ∷ ss) = rising_posting (value_of s.1 f) s.0 (index_of f ss) (rising_index f ss)

-- the postings of the rows with one more are those of the others with one more
pub index_of-with_row : (f : ℕ) (s : ℕ × List Cell) (rows : List (ℕ × List Cell)) → index_of f (with_row s rows) ≡ with_posting (value_of s.1 f) s.0 (index_of f (without_row s.0 rows))
index_of-with_row f s [] = refl
index_of-with_row f s (t ∷ ts) =
    elim (nat_cmp s.0 t.0) as (λ r. index_of f (match_ordering r (s ∷ t ∷ ts) (s ∷ ts) (t ∷ with_row s ts)) ≡ with_posting (value_of s.1 f) s.0 (index_of f (match_ordering r (t ∷ ts) ts (t ∷ without_row s.0 ts)))) [
      | Less ↦ refl
      | Equal ↦ refl
      | Greater ↦ ap (with_posting (value_of t.1 f) t.0) (index_of-with_row f s ts) ∙ postings_commute (value_of t.1 f) (value_of s.1 f) t.0 s.0 (index_of f (without_row s.0 ts))
    ]

-- one row, if there is one
abbrev pub with_old : ℕ → Option (ℕ × List Cell) → List Posting → List Posting
with_old f None ts = ts
with_old f (Some s) ts = with_posting (value_of s.1 f) s.0 ts

old_commutes : (f : ℕ) (s : ℕ × List Cell) (t : Option (ℕ × List Cell)) (ts : List Posting) → with_old f (Some s) (with_old f t ts) ≡ with_old f t (with_old f (Some s) ts)
old_commutes f s None ts = refl
old_commutes f s (Some t) ts = postings_commute (value_of s.1 f) (value_of t.1 f) s.0 t.0 ts

not_below : (p : ℕ) (t : ℕ × List Cell) (ts : List (ℕ × List Cell)) → nat_cmp p t.0 ≡ Less → AllByRecursion (λ u. nat_cmp t.0 u.0 ≡ Less) ts → row_at p ts ≡ None
not_below p t [] less all = refl
not_below p t (u ∷ us) less all =
    ap (λ r. cond (is_eq r) (Some u) (row_at p us)) (nat_cmp_total.trans p t.0 u.0 less all.0) ∙ not_below p t us less all.1

-- the postings of the rows are those of the others with the one at the place
pub index_of-apart : (f p : ℕ) (rows : List (ℕ × List Cell)) → PlacesRise rows → index_of f rows ≡ with_old f (row_at p rows) (index_of f (without_row p rows))
index_of-apart f p [] rise = refl
index_of-apart f p (t ∷ ts) rise =
    elim (nat_cmp p t.0) as (λ r. nat_cmp p t.0 ≡ r → index_of f (t ∷ ts) ≡ with_old f (cond (is_eq r) (Some t) (row_at p ts)) (index_of f (match_ordering r (t ∷ ts) ts (t ∷ without_row p ts)))) [
      | Less ↦ λ is. ap (λ u. with_old f u (index_of f (t ∷ ts))) (sym (not_below p t ts is rise.0))
      | Equal ↦ λ _. refl
      | Greater ↦ λ _. ap (with_old f (Some t)) (index_of-apart f p ts rise.1) ∙ old_commutes f t (row_at p ts) (index_of f (without_row p ts))
    ] refl

with_value_too : (v : Option Value) (p : ℕ) (ts : List Posting) → map value (with_posting v p ts) ≡ with_distinct v (map value ts)
with_value_too None p ts = refl
with_value_too (Some v) p ts = keys_alter value value_total v (posted v p) (λ _. refl) ts

-- the distinct values are the postings' own
pub values_from_index : (f : ℕ) (rows : List (ℕ × List Cell)) → map (λ (t : Posting). t.value) (index_of f rows) ≡ values_of f rows
values_from_index f [] = refl
values_from_index f (s ∷ ss) = with_value_too (value_of s.1 f) s.0 (index_of f ss) ∙ ap (with_distinct (value_of s.1 f)) (values_from_index f ss)

first_place : (p : ℕ) (rows : List (ℕ × List Cell)) (test : ℕ × List Cell → Bool) → AllByRecursion (λ t. nat_cmp p t.0 ≡ Less) rows → with_place p (map (λ s. s.0) (filter test rows)) ≡ p ∷ map (λ s. s.0) (filter test rows)
first_place p [] test all = refl
first_place p (t ∷ ts) test all =
    cond_both (test t) (t ∷ filter test ts) (filter test ts) (λ l. with_place p (map (λ s. s.0) l) ≡ p ∷ map (λ s. s.0) l)
    (λ _. ap (λ b. cond b (p ∷ t.0 ∷ map (λ s. s.0) (filter test ts)) (t.0 ∷ with_place p (map (λ s. s.0) (filter test ts)))) (lt-ltb p t.0 (ranked p t.0 Less (sym all.0))))
    (λ _. first_place p ts test all.1)

abbrev pub Tells : Option Posting → List (ℕ × List Cell) → Type 0
Tells t rows = places_in t ≡ map (λ s. s.0) rows

-- one row more
tells_more : (f : ℕ) (v : Value) (s : ℕ × List Cell) (ss : List (ℕ × List Cell)) (w : Option Value) → AllByRecursion (λ t. nat_cmp s.0 t.0 ≡ Less) ss → Tells (at_key (λ (t : Posting). t.value) value_cmp v (index_of f ss)) (rows_with f v ss)
    → Tells (at_key (λ (t : Posting). t.value) value_cmp v (with_posting w s.0 (index_of f ss))) (cond (is_value v w) (s ∷ rows_with f v ss) (rows_with f v ss))
tells_more f v s ss None above rest = rest
tells_more f v s ss (Some w) above rest =
    let ts = index_of f ss in
    let make = posted w s.0 in
    elim (is_eq (value_cmp v w)) as (λ b. is_eq (value_cmp v w) ≡ b → Tells (at_key value value_cmp v (alter value value_cmp w make ts)) (cond b (s ∷ rows_with f v ss) (rows_with f v ss))) [
      | true ↦ λ is.
          let same : v ≡ w = value_exact v w (equal_from (value_cmp v w) is) in
          let found : at_key value value_cmp v (alter value value_cmp w make ts) ≡ Some (make (at_key value value_cmp v ts)) = subst (λ u. at_key value value_cmp u (alter value value_cmp w make ts) ≡ Some (make (at_key value value_cmp u ts))) (sym same) (at_key-same value value_total w make (λ _. refl) ts (rising_index f ss)) in
          ap places_in found ∙ ap (with_place s.0) rest ∙ first_place s.0 ss (λ t. is_value v (value_of t.1 f)) above
      | false ↦ λ is. subst (λ t. Tells t (rows_with f v ss)) (sym (at_key-other value value_total w make (λ _. refl) v ts is)) rest
    ] refl

-- a value's posting has the places of the rows that have it
pub tells_rows : (f : ℕ) (v : Value) (rows : List (ℕ × List Cell)) → PlacesRise rows → Tells (at_key (λ (t : Posting). t.value) value_cmp v (index_of f rows)) (rows_with f v rows)
tells_rows f v [] rise = refl
tells_rows f v (s ∷ ss) rise = tells_more f v s ss (value_of s.1 f) rise.0 (tells_rows f v ss rise.1)
