-- Lists of the same rows are in one order, whichever is asked, since only rows with one id tie.
use Rattle.std.proofs.Common.{◌≡◌, ◌≢◌, ℕ, true, false, cond, List, [], ◌∷◌, Option, None, Some, length, map, filter, refl, sym, ap, ◌∙◌, ◌⊎◌, inl, inr, ⊎_elim}
use Rattle.std.specs.List.{AllByRecursion}
use Rattle.std.specs.Ordering.{is_eq, ordering_then}
use Rattle.std.specs.declared.cmp.Ordering.{Ordering}
use Rattle.std.specs.declared.cmp.Ordering.TheVariants.{Less, Equal, Greater}
use Rattle.soc_base.proofs.Folk.{equal_from}
use Rattle.soc_schema.specs.declared.value.Value.{Value}
use Rattle.soc_schema.specs.declared.value.Cell.{Cell}
use Rattle.soc_schema.specs.Rows.{value_of}
use Rattle.soc_schema.specs.Fields.{uuid_field}
use Rattle.soc_schema.specs.Orders.{in_order}
use Rattle.soc_schema.proofs.OrderLemmas.{value_exact}
use Rattle.soc_query.specs.declared.part.Sort.{Sort}
use Rattle.soc_query.specs.Answers.{row_order, value_order}
use Rattle.soc_search.proofs.ListedLemmas.{In, Own, Same, SameRows, all_from, all_in, length_rows}
use Rattle.soc_search.proofs.OrderLemmas.{rows_total}
use Rattle.soc_search.proofs.SortLemmas.{order_kind, order_length, order_up, unique}

-- rows that tie have one id
tied_found : (a b : Option Value) → value_order false a b ≡ Equal → a ≡ b
tied_found None None e = refl
tied_found None (Some w) e = cc
tied_found (Some v) None e = cc
tied_found (Some v) (Some w) e = ap Some (value_exact v w e)

last_tied : (r q : Ordering) → ordering_then r q ≡ Equal → q ≡ Equal
last_tied Less q e = cc
last_tied Equal q e = e
last_tied Greater q e = cc

tied_ids : (sorts : List Sort) (a b : List Cell) → row_order sorts a b ≡ Equal → value_of a uuid_field ≡ value_of b uuid_field
tied_ids [] a b e = tied_found (value_of a uuid_field) (value_of b uuid_field) e
tied_ids (s ∷ ss) a b e = tied_ids ss a b (last_tied (value_order s.falling (value_of a s.field) (value_of b s.field)) (row_order ss a b) e)

apart : (sorts : List Sort) (a b : List Cell) → value_of a uuid_field ≢ value_of b uuid_field → is_eq (row_order sorts a b) ≡ false
apart sorts a b ne =
    elim (is_eq (row_order sorts a b)) as (λ t. is_eq (row_order sorts a b) ≡ t → t ≡ false) [
      | true ↦ λ e. absurd (ne (tied_ids sorts a b (equal_from (row_order sorts a b) e)))
      | false ↦ λ _. refl
    ] refl

module _ (sorts : List Sort) where
  none_tied : (u : List Cell) (xs : List (List Cell)) → AllByRecursion (λ y. is_eq (row_order sorts u y) ≡ false) xs → filter (λ y. is_eq (row_order sorts u y)) xs ≡ []
  none_tied u [] all = refl
  none_tied u (x ∷ xs) all = ap (λ b. cond b (x ∷ filter (λ y. is_eq (row_order sorts u y)) xs) (filter (λ y. is_eq (row_order sorts u y)) xs)) all.0 ∙ none_tied u xs all.1

  others_apart : (u x : List Cell) (xs : List (List Cell)) → is_eq (row_order sorts u x) ≡ true → AllByRecursion (λ y. value_of x uuid_field ≢ value_of y uuid_field) xs → AllByRecursion (λ y. is_eq (row_order sorts u y) ≡ false) xs
  others_apart u x [] e all = tt
  others_apart u x (y ∷ ys) e all =
      (apart sorts u y (λ same. all.0 (sym (tied_ids sorts u x (equal_from (row_order sorts u x) e)) ∙ same)), others_apart u x ys e all.1)

  one_tied : (u x : List Cell) (xs : List (List Cell)) → Own xs → In x xs → is_eq (row_order sorts u x) ≡ true → filter (λ y. is_eq (row_order sorts u y)) xs ≡ x ∷ []
  one_tied u x [] own h e = absurd h
  one_tied u x (y ∷ ys) own h e =
      ⊎_elim
      (λ (same : y ≡ x).
      let here : is_eq (row_order sorts u y) ≡ true = ap (λ z. is_eq (row_order sorts u z)) same ∙ e in
      ap (λ b. cond b (y ∷ filter (λ z. is_eq (row_order sorts u z)) ys) (filter (λ z. is_eq (row_order sorts u z)) ys)) here
      ∙ ap (λ l. y ∷ l) (none_tied u ys (others_apart u y ys here own.0)) ∙ ap (λ z. z ∷ []) same)
      (λ (g : In x ys).
      let differ : value_of y uuid_field ≢ value_of x uuid_field = all_in (λ z. value_of y uuid_field ≢ value_of z uuid_field) ys x own.0 g in
      let away : is_eq (row_order sorts u y) ≡ false = apart sorts u y (λ same. differ (sym same ∙ tied_ids sorts u x (equal_from (row_order sorts u x) e))) in
      ap (λ b. cond b (y ∷ filter (λ z. is_eq (row_order sorts u z)) ys) (filter (λ z. is_eq (row_order sorts u z)) ys)) away ∙ one_tied u x ys own.1 g e)
      h

  abbrev Ties : List Cell → List (List Cell) → Type 0
  Ties u xs = (x : List Cell) × In x xs × (is_eq (row_order sorts u x) ≡ true)

  find_tied : (u : List Cell) (xs : List (List Cell)) → Ties u xs ⊎ AllByRecursion (λ y. is_eq (row_order sorts u y) ≡ false) xs
  find_tied u [] = inr tt
  find_tied u (x ∷ xs) =
      elim (is_eq (row_order sorts u x)) as (λ b. is_eq (row_order sorts u x) ≡ b → Ties u (x ∷ xs) ⊎ AllByRecursion (λ y. is_eq (row_order sorts u y) ≡ false) (x ∷ xs)) [
        | true ↦ λ e. inl (x, inl refl, e)
        | false ↦ λ e. ⊎_elim (λ (t : Ties u xs). inl (t.0, inr t.1, t.2)) (λ (all : AllByRecursion (λ y. is_eq (row_order sorts u y) ≡ false) xs). inr (e, all)) (find_tied u xs)
      ] refl

  kinds_same : (xs ys : List (List Cell)) → Same xs ys → (u : List Cell) → filter (λ y. is_eq (row_order sorts u y)) xs ≡ filter (λ y. is_eq (row_order sorts u y)) ys
  kinds_same xs ys same u =
      ⊎_elim
      (λ (t : Ties u xs). one_tied u t.0 xs same.own t.1 t.2 ∙ sym (one_tied u t.0 ys same.other_own (same.to t.0 t.1) t.2))
      (λ (all : AllByRecursion (λ y. is_eq (row_order sorts u y) ≡ false) xs).
      none_tied u xs all ∙ sym (none_tied u ys (all_from (λ y. is_eq (row_order sorts u y) ≡ false) ys (λ y h. all_in (λ z. is_eq (row_order sorts u z) ≡ false) xs y all (same.back y h)))))
      (find_tied u xs)

  pub order_same : (xs ys : List (List Cell)) → Same xs ys → in_order (row_order sorts) xs ≡ in_order (row_order sorts) ys
  order_same xs ys same =
      unique (row_order sorts) (rows_total sorts) (in_order (row_order sorts) xs) (in_order (row_order sorts) ys) (order_up (row_order sorts) (rows_total sorts) xs) (order_up (row_order sorts) (rows_total sorts) ys)
      (λ u. order_kind (row_order sorts) (rows_total sorts) u xs ∙ kinds_same xs ys same u ∙ sym (order_kind (row_order sorts) (rows_total sorts) u ys))

same_length : (xs ys : List (List Cell)) → Same xs ys → length xs ≡ length ys
same_length xs ys same = sym (order_length (row_order []) xs) ∙ ap length (order_same [] xs ys same) ∙ order_length (row_order []) ys

-- and as many
pub as_many : (rows others : List (ℕ × List Cell)) → SameRows rows others → length rows ≡ length others
as_many rows others same = sym (length_rows rows) ∙ same_length (map (λ s. s.1) rows) (map (λ s. s.1) others) same ∙ length_rows others
