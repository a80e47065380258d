-- Counting a posting against the selected places is counting the selected rows.
use Rattle.std.proofs.Common.{◌≡◌, ◌≤◌, ltb, get_or, take, ◌++◌, ℕ, ◌+◌, ◌<◌, Bool, true, false, cond, List, [], ◌∷◌, Option, None, Some, suc, length, map, count_by, ap, sym, ◌∙◌, refl, subst}
use Rattle.std.specs.List.{filter, AllByRecursion}
use Rattle.std.specs.Prelude.{slice_get, is_none, IfSome}
use Rattle.std.proofs.lemmas.List.Sums.{length-filter}
use Rattle.std.proofs.lemmas.Option.{slice_get_within, slice_get-get_or}
use Rattle.std.proofs.lemmas.List.{map-append, take_all, take_more, get_or-map, length-map}
use Rattle.std.proofs.lemmas.List.Elements.{filter_more}
use Rattle.std.specs.Cmp.{IsTotalOrder}
use Rattle.std.specs.Ordering.{nat_cmp}
use Rattle.std.proofs.lemmas.Cmp.{on_total, back_total, nat_cmp_total}
use Rattle.soc_schema.specs.declared.value.Value.{Value}
use Rattle.soc_schema.specs.declared.value.Cell.{Cell}
use Rattle.soc_schema.specs.Rows.{value_of}
use Rattle.soc_schema.specs.Values.{is_value, rows_with, values_of}
use Rattle.soc_store.specs.Stored.{places_of, some_has}
use Rattle.soc_query.specs.declared.answer.Term.{Term}
use Rattle.soc_search.specs.declared.leaders.Counted.{Counted}
use Rattle.soc_search.specs.inner.Selections.{as_term, selected}
use Rattle.soc_query.specs.Answers.{terms_of}
use Rattle.soc_search.proofs.CountedLemmas.{counted_has}
use Rattle.soc_search.proofs.SelectionLemmas.{every_row}

kept_matching : (set : ℕ → Bool) (test : ℕ × List Cell → Bool) (f : ℕ) (v : Value) (rows : List (ℕ × List Cell)) → AllByRecursion (λ s. set s.0 ≡ test s) rows
    → length (filter set (places_of f v rows)) ≡ length (rows_with f v (filter test rows))
kept_matching set test f v [] agree = refl
kept_matching set test f v (s ∷ ss) agree =
    let rest = kept_matching set test f v ss agree.1 in
    elim (is_value v (value_of s.1 f)) as (λ b. is_value v (value_of s.1 f) ≡ b → length (filter set (map (λ t. t.0) (cond b (s ∷ rows_with f v ss) (rows_with f v ss)))) ≡ length (rows_with f v (cond (test s) (s ∷ filter test ss) (filter test ss)))) [
      | true ↦ λ has_it. elim (test s) as (λ t. set s.0 ≡ t → length (filter set (s.0 ∷ places_of f v ss)) ≡ length (rows_with f v (cond t (s ∷ filter test ss) (filter test ss)))) [
        | true ↦ λ in_set. ap (λ b. length (cond b (s.0 ∷ filter set (places_of f v ss)) (filter set (places_of f v ss)))) in_set ∙ ap suc rest
            ∙ ap (λ b. length (cond b (s ∷ rows_with f v (filter test ss)) (rows_with f v (filter test ss)))) (sym has_it)
        | false ↦ λ not_in. ap (λ b. length (cond b (s.0 ∷ filter set (places_of f v ss)) (filter set (places_of f v ss)))) not_in ∙ rest
      ] agree.0
      | false ↦ λ lacks. elim (test s) as (λ t. length (filter set (places_of f v ss)) ≡ length (rows_with f v (cond t (s ∷ filter test ss) (filter test ss)))) [
        | true ↦ rest ∙ ap (λ b. length (cond b (s ∷ rows_with f v (filter test ss)) (rows_with f v (filter test ss)))) (sym lacks)
        | false ↦ rest
      ]
    ] refl

-- where the set has the places of the rows that pass the test, and no other place of a row
pub count_matching : (set : ℕ → Bool) (test : ℕ × List Cell → Bool) (f : ℕ) (v : Value) (rows : List (ℕ × List Cell)) → AllByRecursion (λ s. set s.0 ≡ test s) rows
    → count_by set (places_of f v rows) ≡ length (rows_with f v (filter test rows))
count_matching set test f v rows agree = sym (length-filter set (places_of f v rows)) ∙ kept_matching set test f v rows agree

agree_itself : (set : ℕ → Bool) (rows : List (ℕ × List Cell)) → AllByRecursion (λ s. set s.0 ≡ set s.0) rows
agree_itself set [] = tt
agree_itself set (s ∷ ss) = (refl, agree_itself set ss)

-- of the places of a value as many are selected as there are selected rows that have it
pub count_selected : (set : ℕ → Bool) (f : ℕ) (v : Value) (rows : List (ℕ × List Cell)) → count_by set (places_of f v rows) ≡ length (rows_with f v (filter (λ s. set s.0) rows))
count_selected set f v rows = count_matching set (λ s. set s.0) f v rows (agree_itself set rows)

-- of some values those that a row has, with the number of rows that have it
abbrev pub term_of : ℕ → List (ℕ × List Cell) → Value → Term
term_of f rows v = record { value = v; count = length (rows_with f v rows) }

abbrev pub terms_so_far : ℕ → List (ℕ × List Cell) → List Value → List Term
terms_so_far f rows vs = map (term_of f rows) (filter (some_has f rows) vs)

-- of all values they are the terms
pub terms_whole : (test : ℕ × List Cell → Bool) (f : ℕ) (rows : List (ℕ × List Cell)) → values_of f (filter test rows) ≡ filter (some_has f (filter test rows)) (values_of f rows) → terms_so_far f (filter test rows) (values_of f rows) ≡ terms_of f (filter test rows)
terms_whole test f rows matching = ap (map (term_of f (filter test rows))) (sym matching)

-- one value more
same_some : {x y : Value} → Some x ≡ Some y → x ≡ y
same_some e = cc

map_cond : (pair : Value → Term) (b : Bool) (v : Value) → map pair (cond b (v ∷ []) []) ≡ cond b (pair v ∷ []) []
map_cond pair true v = refl
map_cond pair false v = refl

pub terms_more : (f : ℕ) (rows : List (ℕ × List Cell)) (vs : List Value) (i : ℕ) (v : Value) → slice_get vs i ≡ Some v
    → terms_so_far f rows (take (i + 1) vs) ≡ terms_so_far f rows (take i vs) ++ cond (ltb 0 (length (rows_with f v rows))) (term_of f rows v ∷ []) []
terms_more f rows vs i v at =
    let lt : i < length vs = slice_get_within vs i v at in
    let here : get_or vs i v ≡ v = same_some (sym (slice_get-get_or vs i v lt) ∙ at) in
    let pair : Value → Term = term_of f rows in
    ap (map pair) (filter_more (some_has f rows) vs i v lt) ∙ map-append pair (filter (some_has f rows) (take i vs)) (cond (some_has f rows (get_or vs i v)) (get_or vs i v ∷ []) [])
    ∙ ap (λ u. map pair (filter (some_has f rows) (take i vs)) ++ map pair (cond (some_has f rows u) (u ∷ []) [])) here
    ∙ ap (λ b. map pair (filter (some_has f rows) (take i vs)) ++ map pair (cond b (v ∷ []) [])) (counted_has f v rows)
    ∙ ap (λ l. map pair (filter (some_has f rows) (take i vs)) ++ l) (map_cond pair (ltb 0 (length (rows_with f v rows))) v)

pub terms_all : (test : ℕ × List Cell → Bool) (f : ℕ) (rows : List (ℕ × List Cell)) (i : ℕ) → values_of f (filter test rows) ≡ filter (some_has f (filter test rows)) (values_of f rows) → length (values_of f rows) ≤ i → terms_so_far f (filter test rows) (take i (values_of f rows)) ≡ terms_of f (filter test rows)
terms_all test f rows i matching all = ap (terms_so_far f (filter test rows)) (take_all i (values_of f rows) all) ∙ terms_whole test f rows matching

-- greater counts first
pub counts_fall : IsTotalOrder (λ (t u : Term). nat_cmp u.count t.count)
counts_fall = back_total (on_total (λ (t : Term). t.count) nat_cmp_total)

-- one term more of those that were sorted
pub term_more : (counted : List Counted) (terms now : List Term) (i : ℕ) (one : Counted) (t : Term) → i < length counted → get_or counted i one ≡ one → t ≡ as_term one → terms ≡ take i (map as_term counted) → now ≡ terms ++ t ∷ [] → now ≡ take (i + 1) (map as_term counted)
term_more counted terms now i one t within here is so_far pushed =
    pushed ∙ ap (λ l. l ++ t ∷ []) so_far
    ∙ ap (λ u. take i (map as_term counted) ++ u ∷ []) (is ∙ (ap as_term (sym here) ∙ sym (get_or-map as_term counted i one (as_term one) within)))
    ∙ sym (take_more (map as_term counted) i (as_term one) (subst (λ n. i < n) (sym (length-map counted as_term)) within))

-- where each row is selected
pub count_whole : (set : Option (List (List ℕ))) (f : ℕ) (v : Value) (rows : List (ℕ × List Cell)) (n : ℕ) → is_none set ≡ true → n ≡ length (places_of f v rows) → n ≡ length (rows_with f v (filter (λ s. selected set s.0) rows))
count_whole None f v rows n whole is = is ∙ length-map (rows_with f v rows) (λ s. s.0) ∙ ap (λ l. length (rows_with f v l)) (sym (every_row rows))
count_whole (Some pages) f v rows n whole is = cc

pub some_counted : (o : Option Value) (P Q : Value → Type 0) → ((v : Value) → P v → Q v) → IfSome o P → IfSome o Q
some_counted None P Q step h = tt
some_counted (Some v) P Q step h = step v h
