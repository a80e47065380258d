-- Lists of the same rows, in any order, each with an id of its own.
use Rattle.std.proofs.Common.{◌≡◌, ◌≢◌, ℕ, zero, suc, ◌<◌, Bool, true, false, cond, List, [], ◌∷◌, length, map, filter, get_or, refl, sym, ap, ◌∙◌, arith, subst, ◌⊎◌, inl, inr, ⊎_elim}
use Rattle.std.specs.Prelude.{Contains}
use Rattle.std.proofs.lemmas.Bool.{true≢false}
use Rattle.std.specs.List.{AllByRecursion}
use Rattle.soc_schema.specs.declared.value.Cell.{Cell}
use Rattle.soc_schema.specs.Rows.{value_of}
use Rattle.soc_schema.specs.Fields.{uuid_field}
use Rattle.soc_search.specs.Seen.{HaveOwnIds, ListTheSame}

-- what stands in a list
abbrev pub In : List Cell → List (List Cell) → Type 0
In x [] = ⊥
In x (y ∷ ys) = (y ≡ x) ⊎ In x ys

pub in_at : (xs : List (List Cell)) (x : List Cell) (k : ℕ) → k < length xs → get_or xs k x ≡ x → In x xs
in_at [] x k h e = absurd (omega arith)
in_at (y ∷ ys) x zero h e = inl e
in_at (y ∷ ys) x (suc k) h e = inr (in_at ys x k (omega arith) e)

pub at_in : (xs : List (List Cell)) (x : List Cell) → In x xs → Contains xs x
at_in [] x h = absurd h
at_in (y ∷ ys) x h =
    ⊎_elim
    (λ (e : y ≡ x). (zero, omega arith, e))
    (λ (g : In x ys). let c : Contains ys x = at_in ys x g in (suc c.0, omega (arith, c.1), c.2))
    h

pub all_in : (P : List Cell → Type 0) (xs : List (List Cell)) (x : List Cell) → AllByRecursion P xs → In x xs → P x
all_in P [] x all h = absurd h
all_in P (y ∷ ys) x all h = ⊎_elim (λ (e : y ≡ x). subst P e all.0) (λ (g : In x ys). all_in P ys x all.1 g) h

pub all_from : (P : List Cell → Type 0) (xs : List (List Cell)) → ((x : List Cell) → In x xs → P x) → AllByRecursion P xs
all_from P [] each = tt
all_from P (x ∷ xs) each = (each x (inl refl), all_from P xs (λ y h. each y (inr h)))

abbrev pub Differs : List Cell → List Cell → Type 0
Differs x y = value_of x uuid_field ≢ value_of y uuid_field

abbrev pub Own : List (List Cell) → Type 0
Own [] = Unit {0}
Own (x ∷ xs) = AllByRecursion (Differs x) xs × Own xs

-- rows with ids of their own, the same in both lists
pub record Same (xs ys : List (List Cell)) : Type 0 where
  pub own : Own xs
  pub other_own : Own ys
  pub to : (x : List Cell) → In x xs → In x ys
  pub back : (x : List Cell) → In x ys → In x xs

-- those that pass a test
module _ (test : List Cell → Bool) where
  kept_in : (x : List Cell) (xs : List (List Cell)) → In x xs → test x ≡ true → In x (filter test xs)
  kept_in x [] h e = absurd h
  kept_in x (y ∷ ys) h e =
      elim (test y) as (λ b. test y ≡ b → In x (cond b (y ∷ filter test ys) (filter test ys))) [
        | true ↦ λ _. ⊎_elim (λ (same : y ≡ x). inl same) (λ (g : In x ys). inr (kept_in x ys g e)) h
        | false ↦ λ fails. ⊎_elim (λ (same : y ≡ x). absurd (true≢false (sym e ∙ ap test (sym same) ∙ fails))) (λ (g : In x ys). kept_in x ys g e) h
      ] refl

  in_kept : (x : List Cell) (xs : List (List Cell)) → In x (filter test xs) → In x xs × (test x ≡ true)
  in_kept x [] h = absurd h
  in_kept x (y ∷ ys) h =
      elim (test y) as (λ b. test y ≡ b → In x (cond b (y ∷ filter test ys) (filter test ys)) → In x (y ∷ ys) × (test x ≡ true)) [
        | true ↦ λ passes g. ⊎_elim (λ (same : y ≡ x). (inl same, ap test (sym same) ∙ passes)) (λ (m : In x (filter test ys)). let r : In x ys × (test x ≡ true) = in_kept x ys m in (inr r.0, r.1)) g
        | false ↦ λ _ g. let r : In x ys × (test x ≡ true) = in_kept x ys g in (inr r.0, r.1)
      ] refl h

  own_kept : (xs : List (List Cell)) → Own xs → Own (filter test xs)
  own_kept [] own = tt
  own_kept (x ∷ xs) own =
      elim (test x) as (λ b. Own (cond b (x ∷ filter test xs) (filter test xs))) [
        | true ↦ (all_from (Differs x) (filter test xs) (λ y h. all_in (Differs x) xs y own.0 (in_kept y xs h).0), own_kept xs own.1)
        | false ↦ own_kept xs own.1
      ]

  same_kept : (xs ys : List (List Cell)) → Same xs ys → Same (filter test xs) (filter test ys)
  same_kept xs ys same =
      record {
        own = own_kept xs same.own;
        other_own = own_kept ys same.other_own;
        to = λ x h. let r : In x xs × (test x ≡ true) = in_kept x xs h in kept_in x ys (same.to x r.0) r.1;
        back = λ x h. let r : In x ys × (test x ≡ true) = in_kept x ys h in kept_in x xs (same.back x r.0) r.1;
      }

  kept_rows : (rows : List (ℕ × List Cell)) → map (λ s. s.1) (filter (λ s. test s.1) rows) ≡ filter test (map (λ s. s.1) rows)
  kept_rows [] = refl
  kept_rows (s ∷ ss) =
      elim (test s.1) as (λ b. map (λ t. t.1) (cond b (s ∷ filter (λ t. test t.1) ss) (filter (λ t. test t.1) ss)) ≡ cond b (s.1 ∷ filter test (map (λ t. t.1) ss)) (filter test (map (λ t. t.1) ss))) [
        | true ↦ ap (λ l. s.1 ∷ l) (kept_rows ss)
        | false ↦ kept_rows ss
      ]

-- the same of rows at places
abbrev pub SameRows : List (ℕ × List Cell) → List (ℕ × List Cell) → Type 0
SameRows rows others = Same (map (λ s. s.1) rows) (map (λ s. s.1) others)

pub length_rows : (rows : List (ℕ × List Cell)) → length (map (λ s. s.1) rows) ≡ length rows
length_rows [] = refl
length_rows (s ∷ ss) = ap suc (length_rows ss)

pub rows_kept : (test : List Cell → Bool) (rows others : List (ℕ × List Cell)) → SameRows rows others → SameRows (filter (λ s. test s.1) rows) (filter (λ s. test s.1) others)
rows_kept test rows others same =
    subst (λ l. Same l (map (λ s. s.1) (filter (λ s. test s.1) others))) (sym (kept_rows test rows))
    (subst (Same (filter test (map (λ s. s.1) rows))) (sym (kept_rows test others)) (same_kept test (map (λ s. s.1) rows) (map (λ s. s.1) others) same))

own_rows : (rows : List (ℕ × List Cell)) → HaveOwnIds rows → Own (map (λ s. s.1) rows)
own_rows [] own = tt
own_rows (s ∷ ss) own = (each ss own.0, own_rows ss own.1)
  where
    each : (ts : List (ℕ × List Cell)) → AllByRecursion (λ t. Differs s.1 t.1) ts → AllByRecursion (Differs s.1) (map (λ t. t.1) ts)
    each [] all = tt
    each (t ∷ ts) all = (all.0, each ts all.1)

pub rows_same : (rows others : List (ℕ × List Cell)) → HaveOwnIds rows → HaveOwnIds others → ListTheSame rows others → SameRows rows others
rows_same rows others own other_own lists =
    record {
      own = own_rows rows own;
      other_own = own_rows others other_own;
      to = λ x h. let c : Contains (map (λ s. s.1) others) x = (lists x).0 (at_in (map (λ s. s.1) rows) x h) in in_at (map (λ s. s.1) others) x c.0 c.1 c.2;
      back = λ x h. let c : Contains (map (λ s. s.1) rows) x = (lists x).1 (at_in (map (λ s. s.1) others) x h) in in_at (map (λ s. s.1) rows) x c.0 c.1 c.2;
    }
