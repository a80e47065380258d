-- What a row has of some fields, and the rows at the places of rows.
use Rattle.std.proofs.Common.{◌≡◌, ℕ, zero, suc, ◌+◌, ◌-◌, ◌<◌, ◌≤◌, min, Bool, true, false, cond, List, [], ◌∷◌, ◌++◌, Option, None, Some, length, map, filter, take, drop, get_or, refl, sym, ap, ◌∙◌, arith, subst, append-nil, append_assoc, ⊎_elim}
use Rattle.std.proofs.lemmas.Bool.{lt-ltb, cases_lt}
use Rattle.std.proofs.lemmas.List.{drop-take, take_all, take_more, map-append}
use Rattle.std.proofs.lemmas.List.Elements.{filter_map-append}
use Rattle.std.proofs.lemmas.Cmp.{nat_cmp_total, tied_itself}
use Rattle.std.specs.List.{AllByRecursion, filter_map, cons_option}
use Rattle.std.specs.Option.{option_map, option_to_list}
use Rattle.std.specs.Ordering.{nat_cmp, is_eq, ordering_reverse}
use Rattle.std.specs.declared.cmp.Ordering.TheVariants.{Less}
use Rattle.soc_base.proofs.Folk.{drop_past}
use Rattle.soc_schema.specs.declared.value.Value.{Value}
use Rattle.soc_schema.specs.declared.value.Cell.{Cell}
use Rattle.soc_schema.specs.Rows.{cell, with_value, RisesFrom, IsRow, kind_of_value}
use Rattle.soc_schema.specs.Fields.{kind_of}
use Rattle.soc_store.specs.Stored.{row_at, PlacesRise}
use Rattle.soc_search.specs.inner.Selections.{row_of}
use Rattle.soc_search.proofs.SortLemmas.{all_filtered}

-- what is shown of a row, before what is left of it
pub record Keeps (test : Cell → Bool) (row rest shown : List Cell) : Type 0 where
  pub low : ℕ
  pub rises : RisesFrom low rest
  pub below : AllByRecursion (λ c. c.field < low) shown
  pub whole : shown ++ filter test rest ≡ filter test row

pub keeps_first : (test : Cell → Bool) (row rest : List Cell) → rest ≡ row → IsRow row → Keeps test row rest []
keeps_first test row rest e is_row = record { low = 0; rises = subst (RisesFrom 0) (sym e) is_row; below = tt; whole = ap (filter test) e }

-- the field of a greater one is put at the end
put_last : (shown : List Cell) (f : ℕ) (v : Value) → AllByRecursion (λ c. c.field < f) shown → with_value shown f v ≡ shown ++ cell f v ∷ []
put_last [] f v below = refl
put_last (c ∷ cs) f v below = rw (lt-ltb c.field f below.0) (ap (λ l. c ∷ l) (put_last cs f v below.1))

raised : (low high : ℕ) (shown : List Cell) → low ≤ high → AllByRecursion (λ c. c.field < low) shown → AllByRecursion (λ c. c.field < high) shown
raised low high [] le below = tt
raised low high (c ∷ cs) le below = (omega (arith, below.0), raised low high cs le below.1)

with_last : (f : ℕ) (v : Value) (shown : List Cell) → AllByRecursion (λ c. c.field < f + 1) shown → AllByRecursion (λ c. c.field < f + 1) (shown ++ cell f v ∷ [])
with_last f v [] below = (omega arith, tt)
with_last f v (c ∷ cs) below = (below.0, with_last f v cs below.1)

keeps_put : (test : Cell → Bool) (row rest left shown now : List Cell) (f : ℕ) (v : Value) → rest ≡ cell f v ∷ left → test (cell f v) ≡ true → now ≡ with_value shown f v → Keeps test row rest shown → Keeps test row left now
keeps_put test row rest left shown now f v at passes put k =
    let rises : RisesFrom k.low (cell f v ∷ left) = subst (RisesFrom k.low) at k.rises in
    let low : k.low ≤ f = rises.0 in
    let pushed : now ≡ shown ++ cell f v ∷ [] = put ∙ put_last shown f v (raised k.low f shown low k.below) in
    record {
      low = f + 1;
      rises = rises.2;
      below = subst (AllByRecursion (λ c. c.field < f + 1)) (sym pushed) (with_last f v shown (raised k.low (f + 1) shown (omega arith) k.below));
      whole = ap (λ l. l ++ filter test left) pushed ∙ append_assoc shown (cell f v ∷ []) (filter test left)
          ∙ ap (λ l. shown ++ l) (sym (ap (filter test) at ∙ ap (λ b. cond b (cell f v ∷ filter test left) (filter test left)) passes)) ∙ k.whole;
    }

pub keeps_more : (test : Cell → Bool) (row rest left shown now : List Cell) (f : ℕ) (v w : Value) → rest ≡ cell f v ∷ left → test (cell f v) ≡ true → w ≡ v → now ≡ with_value shown f w → Keeps test row rest shown → Keeps test row left now
keeps_more test row rest left shown now f v w at passes same put k = keeps_put test row rest left shown now f v at passes (put ∙ ap (with_value shown f) same) k

pub keeps_over : (test : Cell → Bool) (row rest left shown : List Cell) (c : Cell) → rest ≡ c ∷ left → test c ≡ false → Keeps test row rest shown → Keeps test row left shown
keeps_over test row rest left shown c at fails k =
    let rises : RisesFrom k.low (c ∷ left) = subst (RisesFrom k.low) at k.rises in
    let low : k.low ≤ c.field = rises.0 in
    record {
      low = c.field + 1;
      rises = rises.2;
      below = raised k.low (c.field + 1) shown (omega arith) k.below;
      whole = ap (λ l. shown ++ l) (sym (ap (filter test) at ∙ ap (λ b. cond b (c ∷ filter test left) (filter test left)) fails)) ∙ k.whole;
    }

pub keeps_all : (test : Cell → Bool) (row rest shown : List Cell) → rest ≡ [] → Keeps test row rest shown → shown ≡ filter test row
keeps_all test row rest shown none k = sym (append-nil shown) ∙ ap (λ l. shown ++ l) (sym (ap (filter test) none)) ∙ k.whole

pub keeps_kind : (test : Cell → Bool) (row rest left shown : List Cell) (f : ℕ) (v w : Value) → rest ≡ cell f v ∷ left → w ≡ v → Keeps test row rest shown → kind_of_value w ≡ kind_of f
keeps_kind test row rest left shown f v w at same k =
    let rises : RisesFrom k.low (cell f v ∷ left) = subst (RisesFrom k.low) at k.rises in
    ap kind_of_value same ∙ rises.1.of_kind

length_dropped : {X : Type 0} (xs : List X) (n : ℕ) → length (drop n xs) ≡ length xs - n
length_dropped [] zero = refl
length_dropped [] (suc n) = omega arith
length_dropped (x ∷ xs) zero = omega arith
length_dropped (x ∷ xs) (suc n) = length_dropped xs n ∙ omega arith

drop_min : {X : Type 0} (xs : List X) (n m : ℕ) → m ≡ min (length xs) n → drop m xs ≡ drop n xs
drop_min xs n m e =
    ⊎_elim
    (λ (lt : n < length xs). let same : m ≡ n = omega (arith, e) in ap (λ k. drop k xs) same)
    (λ (le : length xs ≤ n). let same : m ≡ length xs = omega (arith, e) in ap (λ k. drop k xs) same ∙ drop_past xs (length xs) (omega arith) ∙ sym (drop_past xs n le))
    (cases_lt n (length xs))

take_min : {X : Type 0} (xs : List X) (n m : ℕ) → m ≡ min (length xs) n → take m xs ≡ take n xs
take_min xs n m e =
    ⊎_elim
    (λ (lt : n < length xs). let same : m ≡ n = omega (arith, e) in ap (λ k. take k xs) same)
    (λ (le : length xs ≤ n). let same : m ≡ length xs = omega (arith, e) in ap (λ k. take k xs) same ∙ take_all (length xs) xs (omega arith) ∙ sym (take_all n xs le))
    (cases_lt n (length xs))

pub map_take : {X Y : Type 0} (f : X → Y) (n : ℕ) (xs : List X) → map f (take n xs) ≡ take n (map f xs)
map_take f zero [] = refl
map_take f zero (x ∷ xs) = refl
map_take f (suc n) [] = refl
map_take f (suc n) (x ∷ xs) = ap (λ l. f x ∷ l) (map_take f n xs)

pub map_drop : {X Y : Type 0} (f : X → Y) (n : ℕ) (xs : List X) → map f (drop n xs) ≡ drop n (map f xs)
map_drop f zero [] = refl
map_drop f zero (x ∷ xs) = refl
map_drop f (suc n) [] = refl
map_drop f (suc n) (x ∷ xs) = map_drop f n xs

pub cut_out : {X Y : Type 0} (f : X → Y) (xs : List X) (offset number first count : ℕ) → first ≡ min (length xs) offset → count ≡ min (length (take (length xs - first) (drop first xs))) number
    → map f (take count (take (length xs - first) (drop first xs))) ≡ take number (drop offset (map f xs))
cut_out f xs offset number first count at many =
    let left : take (length xs - first) (drop first xs) ≡ drop offset xs = take_all (length xs - first) (drop first xs) (omega (arith, length_dropped xs first)) ∙ drop_min xs offset first at in
    let counted : count ≡ min (length (drop offset xs)) number = many ∙ ap (λ l. min (length l) number) left in
    ap (λ l. map f (take count l)) left ∙ ap (map f) (take_min (drop offset xs) number count counted) ∙ map_take f number (drop offset xs) ∙ ap (take number) (map_drop f offset xs)

-- as many as are wanted and left
pub wanted_part : {X : Type 0} (number offset total wanted : ℕ) (some sorted : List X) → total ≡ length sorted → wanted ≡ min number (total - offset) → take (offset + wanted) some ≡ take (offset + wanted) sorted
    → take wanted (drop offset some) ≡ take number (drop offset sorted)
wanted_part number offset total wanted some sorted all is same =
    sym (drop-take offset wanted some) ∙ ap (drop offset) same ∙ drop-take offset wanted sorted ∙ take_min (drop offset sorted) number wanted (let left = length_dropped sorted offset in omega (arith, all, is, left))

-- none are left, or none are wanted
pub none_wanted : {X : Type 0} (number offset total wanted : ℕ) (sorted : List X) → total ≡ length sorted → wanted ≡ min number (total - offset) → wanted ≡ 0 → [] ≡ take number (drop offset sorted)
none_wanted number offset total wanted sorted all is none =
    ap (λ n. take n (drop offset sorted)) (sym none) ∙ take_min (drop offset sorted) number wanted (let left = length_dropped sorted offset in omega (arith, all, is, left))

-- one more of those that a list is mapped to
pub mapped_more : {X Y : Type 0} (f : X → Y) (xs : List X) (done now : List Y) (i : ℕ) (x : X) (y : Y) → i < length xs → get_or xs i x ≡ x → y ≡ f x → done ≡ map f (take i xs) → now ≡ done ++ y ∷ [] → now ≡ map f (take (i + 1) xs)
mapped_more f xs done now i x y within here is so_far pushed =
    pushed ∙ ap (λ l. l ++ y ∷ []) so_far ∙ ap (λ z. map f (take i xs) ++ z ∷ []) (is ∙ ap f (sym here)) ∙ sym (ap (map f) (take_more xs i x within) ∙ map-append f (take i xs) (get_or xs i x ∷ []))

pub map_twice : {X Y Z : Type 0} (f : Y → Z) (h : X → Y) (xs : List X) → map (λ x. f (h x)) xs ≡ map f (map h xs)
map_twice f h [] = refl
map_twice f h (x ∷ xs) = ap (λ l. f (h x) ∷ l) (map_twice f h xs)

-- one more of those that are found
pub found_more : {X Y : Type 0} (f : X → Option Y) (xs : List X) (i : ℕ) (d : X) → i < length xs → filter_map f (take (i + 1) xs) ≡ filter_map f (take i xs) ++ filter_map f (get_or xs i d ∷ [])
found_more f xs i d within = ap (filter_map f) (take_more xs i d within) ∙ filter_map-append f (take i xs) (get_or xs i d ∷ [])

-- each row is found at its place
not_there : (p q : ℕ) → nat_cmp q p ≡ Less → is_eq (nat_cmp p q) ≡ false
not_there p q less = ap is_eq (nat_cmp_total.antisymm p q ∙ ap ordering_reverse less)

still_there : (e : ℕ × List Cell) (es ss : List (ℕ × List Cell)) → AllByRecursion (λ s. nat_cmp e.0 s.0 ≡ Less) ss → AllByRecursion (λ s. row_at s.0 es ≡ Some s) ss → AllByRecursion (λ s. row_at s.0 (e ∷ es) ≡ Some s) ss
still_there e es [] less there = tt
still_there e es (s ∷ ss) less there = (ap (λ b. cond b (Some e) (row_at s.0 es)) (not_there s.0 e.0 less.0) ∙ there.0, still_there e es ss less.1 there.1)

pub all_there : (rows : List (ℕ × List Cell)) → PlacesRise rows → AllByRecursion (λ s. row_at s.0 rows ≡ Some s) rows
all_there [] rise = tt
all_there (e ∷ es) rise =
    (ap (λ b. cond b (Some e) (row_at e.0 es)) (ap is_eq (tied_itself nat_cmp_total e.0)), still_there e es es rise.0 (all_there es rise.1))

found_rows : (rows ss : List (ℕ × List Cell)) → AllByRecursion (λ s. row_at s.0 rows ≡ Some s) ss → filter_map (row_of rows) (map (λ s. s.0) ss) ≡ map (λ s. s.1) ss
found_rows rows [] there = refl
found_rows rows (s ∷ ss) there = ap (λ o. cons_option (option_map (λ t. t.1) o) (filter_map (row_of rows) (map (λ t. t.0) ss))) there.0 ∙ ap (λ l. s.1 ∷ l) (found_rows rows ss there.1)

pub rows_found : (rows : List (ℕ × List Cell)) (test : ℕ × List Cell → Bool) → PlacesRise rows → filter_map (row_of rows) (map (λ s. s.0) (filter test rows)) ≡ map (λ s. s.1) (filter test rows)
rows_found rows test rise = found_rows rows (filter test rows) (all_filtered (λ s. row_at s.0 rows ≡ Some s) test rows (all_there rows rise))

one_found : {Y : Type 0} (o : Option Y) → cons_option o [] ≡ option_to_list o
one_found None = refl
one_found (Some y) = refl

pub found_pushed : {X Y : Type 0} (f : X → Option Y) (xs : List X) (i : ℕ) (x : X) (o : Option Y) (done now : List Y) → i < length xs → get_or xs i x ≡ x → o ≡ f x → done ≡ filter_map f (take i xs) → now ≡ done ++ option_to_list o → now ≡ filter_map f (take (i + 1) xs)
found_pushed f xs i x o done now within here is so_far pushed =
    pushed ∙ ap (λ l. l ++ option_to_list o) so_far
    ∙ ap (λ l. filter_map f (take i xs) ++ l) (ap option_to_list is ∙ sym (ap (λ y. cons_option (f y) []) here ∙ one_found (f x)))
    ∙ sym (found_more f xs i x within)
