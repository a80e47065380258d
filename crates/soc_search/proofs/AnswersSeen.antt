-- The answer to a query depends on the granted fields of visible rows alone, in whatever order.
use Rattle.std.proofs.Common.{◌≡◌, ℕ, Bool, true, false, cond, List, [], ◌∷◌, length, map, take, drop, nat_eq, refl, sym, ap, ◌∙◌, subst}
use Rattle.std.specs.Prelude.{◌&&◌, ◌||◌, not, if◌then◌else◌}
use Rattle.std.proofs.lemmas.Bool.{eqb-true}
use Rattle.std.specs.List.{AllByRecursion, list_all, list_any}
use Rattle.std.specs.Ordering.{nat_cmp, ordering_then}
use Rattle.soc_schema.specs.declared.caller.Caller.{Caller}
use Rattle.soc_schema.specs.declared.value.Value.{Value}
use Rattle.soc_schema.specs.declared.value.Cell.{Cell}
use Rattle.soc_schema.specs.Fields.{field_entry, field_table, permission_of, uuid_field}
use Rattle.soc_schema.specs.Orders.{in_order}
use Rattle.soc_schema.specs.Permits.{Granted, is_granted}
use Rattle.soc_schema.specs.Rows.{value_of}
use Rattle.soc_schema.specs.Values.{is_value, rows_with, sees, values_of}
use Rattle.soc_query.specs.declared.condition.Condition.{Condition}
use Rattle.soc_query.specs.declared.part.Sort.{Sort}
use Rattle.soc_query.specs.declared.answer.Term.{Term}
use Rattle.soc_query.specs.Queries.{AreGranted, Asked}
use Rattle.soc_query.specs.Answers.{answer_of, columns_of, facet_of, hits_of, is_exact, matching_rows, meets, meets_alone, meets_one, passes, row_order, terms_of, value_order}
use Rattle.soc_search.specs.Seen.{HaveOwnIds, ListTheSame, seen_rows}
use Rattle.soc_search.proofs.AnswerLemmas.{same_answer}
use Rattle.soc_search.proofs.AnyOrderLemmas.{as_many, order_same}
use Rattle.soc_search.proofs.CountedLemmas.{values_same}
use Rattle.soc_search.proofs.HitLemmas.{map_drop, map_take}
use Rattle.soc_search.proofs.ListedLemmas.{SameRows, rows_kept, rows_same}
use Rattle.soc_search.proofs.SeenLemmas.{counted_seen, kept_seen, length_seen, public, see, seen, value_seen}
use Rattle.soc_search.proofs.SortLemmas.{order_agree, order_map}

terms_same : (f : ℕ) (rows others : List (ℕ × List Cell)) → ((v : Value) → length (rows_with f v rows) ≡ length (rows_with f v others)) → terms_of f rows ≡ terms_of f others
terms_same f rows others counts = each (values_of f rows) ∙ ap (map (λ v. record { value = v; count = length (rows_with f v others) })) (values_same f rows others counts)
  where
    each : (vs : List Value) → ◌≡◌ {A = List Term} (map (λ v. record { value = v; count = length (rows_with f v rows) }) vs) (map (λ v. record { value = v; count = length (rows_with f v others) }) vs)
    each [] = refl
    each (v ∷ vs) =
        let here : ◌≡◌ {A = Term} (record { value = v; count = length (rows_with f v rows) }) (record { value = v; count = length (rows_with f v others) }) = ap (λ n. record { value = v; count = n }) (counts v) in
        ap (λ t. t ∷ map (λ w. record { value = w; count = length (rows_with f w rows) }) vs) here ∙ ap (λ l. record { value = v; count = length (rows_with f v others) } ∷ l) (each vs)

-- facets are the same where as many rows have each value of their fields
facets_same : (size : ℕ) (rows others : List (ℕ × List Cell)) (fs : List ℕ) → AllByRecursion (λ f. (v : Value) → length (rows_with f v rows) ≡ length (rows_with f v others)) fs → map (facet_of size rows) fs ≡ map (facet_of size others) fs
facets_same size rows others [] counts = refl
facets_same size rows others (f ∷ fs) counts =
    ap (λ ts. record { field = f; terms = take size (in_order (λ t u. nat_cmp u.count t.count) ts) } ∷ map (facet_of size rows) fs) (terms_same f rows others counts.0)
    ∙ ap (λ l. facet_of size others f ∷ l) (facets_same size rows others fs counts.1)

-- ---- what is seen

module _ (caller : Caller) where
  uuid_shown : Granted caller uuid_field
  unfolding permission_of field_entry field_table
  uuid_shown = public caller uuid_field refl

  alone_seen : (row : List Cell) (c : Condition) → Granted caller c.field → meets_alone (see caller row) c ≡ meets_alone row c
  alone_seen row c granted = ap (λ o. if c.negated then not (passes c.test o) else passes c.test o) (value_seen caller row c.field granted)

  one_seen : (cs : List Condition) (f : ℕ) (row : List Cell) → AllByRecursion (λ c. Granted caller c.field) cs → meets_one cs f (see caller row) ≡ meets_one cs f row
  one_seen [] f row all = refl
  one_seen (c ∷ cs) f row all =
      ap (λ b. (is_exact c && (nat_eq c.field f && b)) || meets_one cs f (see caller row)) (alone_seen row c all.0) ∙ ap (λ b. (is_exact c && (nat_eq c.field f && meets_alone row c)) || b) (one_seen cs f row all.1)

  abbrev holds_one : List Condition → List Cell → Condition → Bool
  holds_one all row c = if is_exact c then meets_one all c.field row else meets_alone row c

  each_seen : (whole cs : List Condition) (row : List Cell) → AllByRecursion (λ c. Granted caller c.field) whole → AllByRecursion (λ c. Granted caller c.field) cs → list_all (holds_one whole (see caller row)) cs ≡ list_all (holds_one whole row) cs
  each_seen whole [] row every all = refl
  each_seen whole (c ∷ cs) row every all =
      ap (λ b. (if is_exact c then b else meets_alone (see caller row) c) && list_all (holds_one whole (see caller row)) cs) (one_seen whole c.field row every)
      ∙ ap (λ b. (if is_exact c then meets_one whole c.field row else b) && list_all (holds_one whole (see caller row)) cs) (alone_seen row c all.0)
      ∙ ap (λ b. holds_one whole row c && b) (each_seen whole cs row every all.1)

  meets_seen : (cs : List Condition) (row : List Cell) → AllByRecursion (λ c. Granted caller c.field) cs → meets cs (see caller row) ≡ meets cs row
  meets_seen cs row all = each_seen cs cs row all all

  order_seen : (sorts : List Sort) (a b : List Cell) → AllByRecursion (λ s. Granted caller s.field) sorts → row_order sorts (see caller a) (see caller b) ≡ row_order sorts a b
  order_seen [] a b all =
      ap (λ o. value_order false o (value_of (see caller b) uuid_field)) (value_seen caller a uuid_field uuid_shown) ∙ ap (value_order false (value_of a uuid_field)) (value_seen caller b uuid_field uuid_shown)
  order_seen (s ∷ ss) a b all =
      ap (λ o. ordering_then (value_order s.falling o (value_of (see caller b) s.field)) (row_order ss (see caller a) (see caller b))) (value_seen caller a s.field all.0)
      ∙ ap (λ o. ordering_then (value_order s.falling (value_of a s.field) o) (row_order ss (see caller a) (see caller b))) (value_seen caller b s.field all.0)
      ∙ ap (ordering_then (value_order s.falling (value_of a s.field) (value_of b s.field))) (order_seen ss a b all.1)

  among : (fs : List ℕ) (f : ℕ) → AllByRecursion (Granted caller) fs → is_granted caller f ≡ false → list_any (λ g. nat_eq g f) fs ≡ false
  among [] f all hidden = refl
  among (g ∷ gs) f all hidden =
      elim (nat_eq g f) as (λ b. nat_eq g f ≡ b → (b || list_any (λ h. nat_eq h f) gs) ≡ false) [
        | true ↦ λ same. let shown : is_granted caller f ≡ true = subst (λ h. is_granted caller h ≡ true) (eqb-true g f same) all.0 in let no : true ≡ false = sym shown ∙ hidden in cc
        | false ↦ λ _. among gs f all.1 hidden
      ] refl

  columns_seen : (fs : List ℕ) (row : List Cell) → AllByRecursion (Granted caller) fs → columns_of fs (see caller row) ≡ columns_of fs row
  columns_seen fs [] all = refl
  columns_seen fs (c ∷ cs) all =
      elim (is_granted caller c.field) as (λ b. is_granted caller c.field ≡ b → columns_of fs (cond b (c ∷ see caller cs) (see caller cs)) ≡ columns_of fs (c ∷ cs)) [
        | true ↦ λ _. ap (λ l. cond (list_any (λ f. nat_eq f c.field) fs) (c ∷ l) l) (columns_seen fs cs all)
        | false ↦ λ hidden. columns_seen fs cs all ∙ sym (ap (λ b. cond b (c ∷ columns_of fs cs) (columns_of fs cs)) (among fs c.field all hidden))
      ] refl

  columns_all : (fs : List ℕ) (rows : List (List Cell)) → AllByRecursion (Granted caller) fs → map (columns_of fs) (map (see caller) rows) ≡ map (columns_of fs) rows
  columns_all fs [] all = refl
  columns_all fs (r ∷ rs) all = ap (λ c. c ∷ map (columns_of fs) (map (see caller) rs)) (columns_seen fs r all) ∙ ap (λ l. columns_of fs r ∷ l) (columns_all fs rs all)

  second : (rows : List (ℕ × List Cell)) → map (λ s. s.1) (map (seen caller) rows) ≡ map (see caller) (map (λ s. s.1) rows)
  second [] = refl
  second (s ∷ ss) = ap (λ l. see caller s.1 ∷ l) (second ss)

  cut : (n m : ℕ) (rows : List (List Cell)) → take n (drop m (map (see caller) rows)) ≡ map (see caller) (take n (drop m rows))
  cut n m rows = ap (take n) (sym (map_drop (see caller) m rows)) ∙ sym (map_take (see caller) n (drop m rows))

  counts_seen : (rows : List (ℕ × List Cell)) (fs : List ℕ) → AllByRecursion (Granted caller) fs → AllByRecursion (λ f. (v : Value) → length (rows_with f v (map (seen caller) rows)) ≡ length (rows_with f v rows)) fs
  counts_seen rows [] all = tt
  counts_seen rows (f ∷ fs) all = ((λ v. counted_seen caller f v rows all.0), counts_seen rows fs all.1)

pub by_what_is_seen : (q : Asked) (rows : List (ℕ × List Cell)) → AreGranted q → answer_of q (seen_rows q.caller rows) ≡ answer_of q rows
by_what_is_seen q rows granted =
    let kept = matching_rows q rows in
    let same : matching_rows q (seen_rows q.caller rows) ≡ map (seen q.caller) kept = kept_seen q.caller (meets q.conditions) (λ row. meets_seen q.caller q.conditions row granted.0) rows in
    let sorted : in_order (row_order q.sorts) (map (λ s. s.1) (map (seen q.caller) kept)) ≡ map (see q.caller) (in_order (row_order q.sorts) (map (λ s. s.1) kept)) =
    ap (in_order (row_order q.sorts)) (second q.caller kept) ∙ sym (order_map (see q.caller) (row_order q.sorts) (map (λ s. s.1) kept))
    ∙ ap (map (see q.caller)) (order_agree (λ a b. row_order q.sorts (see q.caller a) (see q.caller b)) (row_order q.sorts) (λ a b. order_seen q.caller q.sorts a b granted.1) (map (λ s. s.1) kept)) in
    same_answer (length (matching_rows q (seen_rows q.caller rows))) (length kept) q.columns q.columns (hits_of q (matching_rows q (seen_rows q.caller rows))) (hits_of q kept) (map (facet_of q.facet_size (matching_rows q (seen_rows q.caller rows))) q.facets) (map (facet_of q.facet_size kept) q.facets)
    (ap length same ∙ length_seen q.caller kept)
    refl
    (ap (hits_of q) same ∙ ap (λ l. map (columns_of q.columns) (take q.number (drop q.offset l))) sorted ∙ ap (map (columns_of q.columns)) (cut q.caller q.number q.offset (in_order (row_order q.sorts) (map (λ s. s.1) kept))) ∙ columns_all q.caller q.columns (take q.number (drop q.offset (in_order (row_order q.sorts) (map (λ s. s.1) kept)))) granted.2)
    (ap (λ rs. map (facet_of q.facet_size rs) q.facets) same ∙ facets_same q.facet_size (map (seen q.caller) kept) kept q.facets (counts_seen q.caller kept q.facets granted.3))

-- ---- the same rows in another order

each_field : (P : ℕ → Type 0) (fs : List ℕ) → ((f : ℕ) → P f) → AllByRecursion P fs
each_field P [] each = tt
each_field P (f ∷ fs) each = (each f, each_field P fs each)

pub in_any_order : (q : Asked) (rows others : List (ℕ × List Cell)) → HaveOwnIds rows → HaveOwnIds others → ListTheSame rows others → answer_of q rows ≡ answer_of q others
in_any_order q rows others own other_own lists =
    let kept : SameRows (matching_rows q rows) (matching_rows q others) = rows_kept (λ row. sees q.caller row && meets q.conditions row) rows others (rows_same rows others own other_own lists) in
    same_answer (length (matching_rows q rows)) (length (matching_rows q others)) q.columns q.columns (hits_of q (matching_rows q rows)) (hits_of q (matching_rows q others)) (map (facet_of q.facet_size (matching_rows q rows)) q.facets) (map (facet_of q.facet_size (matching_rows q others)) q.facets)
    (as_many (matching_rows q rows) (matching_rows q others) kept)
    refl
    (ap (λ l. map (columns_of q.columns) (take q.number (drop q.offset l))) (order_same q.sorts (map (λ s. s.1) (matching_rows q rows)) (map (λ s. s.1) (matching_rows q others)) kept))
    (facets_same q.facet_size (matching_rows q rows) (matching_rows q others) q.facets
    (each_field (λ f. (v : Value) → length (rows_with f v (matching_rows q rows)) ≡ length (rows_with f v (matching_rows q others))) q.facets (λ f v.
    as_many (rows_with f v (matching_rows q rows)) (rows_with f v (matching_rows q others)) (rows_kept (λ row. is_value v (value_of row f)) (matching_rows q rows) (matching_rows q others) kept))))
