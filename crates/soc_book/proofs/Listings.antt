-- The rows that a caller's view lists are those of the store that the caller may see.
use Rattle.std.proofs.Common.{◌≡◌, ◌≢◌, ℕ, suc, ◌+◌, ◌<◌, ◌≤◌, eqb, Bool, true, false, IsTrue, List, [], ◌∷◌, ◌++◌, length, map, Option, Some, None, IfSome, IsSome, IsSomeAnd, cond, sym, ap, subst, ◌∙◌, refl, arith, ◌⊎◌, inl, inr, ⊎_elim}
use Rattle.soc_book.proofs.Words.{bytes_eq, filter, filter_map, if◌then◌else◌, slice_get, Contains, AllByRecursion, cons_option, enumerate_from, find, option_map, option_map_or, option_and_then, nat_cmp, is_eq, match_ordering, Less, Equal, Greater, cases_lt, eq-eqb, ne_eqb, lt-ltb, le-ltb, filter_map-append, bytes_eq-Decides, value_of, with_value, Crash, IsCrash, Caller, Cell, Text, uuid_field, Granted, granted_cells, shows, TellsCrash, product_of, PlacesRise, row_at, Filed, is_held, seen_rows, HaveOwnIds, ListTheSame, Basis, RowsTell, Change, Accepted, accepted_of, events, raw_of, row_in, IsLegal, Seen, View, view_of, rows_in, has_id, IsApart, accepted_apart, turned_eq, item, item_of, items_of, item_id, items_absent, view_of_items, view_items, seen_under, all-filter_map, filter_map-same, all_weaker, all_both, shown_row}
use Rattle.std.specs.Cmp.Lexicographic.{slice_cmp}
use Rattle.std.specs.BTreeMap.{insert_entry}
use Rattle.soc_schema.specs.Fields.{field_entry, field_table, permission_of}
use Rattle.soc_schema.specs.Rows.{value_of as cell_value}
use Rattle.soc_schema.specs.Values.{text_of, product_of as row_product}
use Rattle.soc_search.proofs.ListedLemmas.{In, in_at, at_in, all_in, all_from, Differs, Own}
use Rattle.soc_search.proofs.OrderLemmas.{less_from}
use Rattle.soc_search.proofs.SeenLemmas.{value_seen, public}
use Rattle.soc_desk.proofs.Views.{true_is_not_false}
use Rattle.soc_book.proofs.Tellings.{rows_tell}
use Rattle.soc_book.proofs.Changes.{IsSoundCrash, sound_crashes}
use Rattle.soc_book.proofs.Rows.{no_row, row_behind}

-- ---- the rows of crashes

-- the granted fields of a row whose product the caller may see
abbrev pub one_row : Caller → List Cell → Option (List Cell)
one_row caller row = if shows caller.products (row_product row) then Some (granted_cells caller row) else None

-- what a caller sees of the row of an id
abbrev pub crash_row : Basis → List Change → Caller → List ℕ → Option (List Cell)
crash_row basis log caller id = option_and_then (one_row caller) (shown_row basis log id)

-- what a caller sees of the rows of these ids
abbrev pub crash_rows : Basis → List Change → Caller → List (List ℕ) → List (List Cell)
crash_rows basis log caller ids = filter_map (crash_row basis log caller) ids

abbrev pub ids_of : List Accepted → List (List ℕ)
ids_of crashes = map (λ crash. crash.id) crashes

module _ {X Y Z : Type 0} where
  filter_map-twice : (f : X → Option Y) (g : Y → Option Z) (xs : List X) → filter_map g (filter_map f xs) ≡ filter_map (λ x. option_and_then g (f x)) xs
  filter_map-twice f g [] = refl
  filter_map-twice f g (x ∷ xs) =
      elim (f x) as (λ o. filter_map g (cons_option o (filter_map f xs)) ≡ cons_option (option_and_then g o) (filter_map (λ y. option_and_then g (f y)) xs)) [
        | None ↦ filter_map-twice f g xs
        | Some y ↦ ap (λ l. cons_option (g y) l) (filter_map-twice f g xs)
      ]

  filter_map-map : (f : X → Y) (g : Y → Option Z) (xs : List X) → filter_map g (map f xs) ≡ filter_map (λ x. g (f x)) xs
  filter_map-map f g [] = refl
  filter_map-map f g (x ∷ xs) = ap (λ l. cons_option (g (f x)) l) (filter_map-map f g xs)

-- ---- the store

-- the rows that are seen, without their places
seen_listed : (caller : Caller) (rows : List (ℕ × List Cell)) → map (λ s. s.1) (seen_rows caller rows) ≡ filter_map (one_row caller) (map (λ s. s.1) rows)
seen_listed caller [] = refl
seen_listed caller (s ∷ ss) =
    elim (shows caller.products (row_product s.1)) as (λ b. map (λ (t : ℕ × List Cell). t.1) (map (λ (t : ℕ × List Cell). (t.0, granted_cells caller t.1)) (cond b (s ∷ filter (λ t. shows caller.products (row_product t.1)) ss) (filter (λ t. shows caller.products (row_product t.1)) ss)))
    ≡ cons_option (if b then Some (granted_cells caller s.1) else None) (filter_map (one_row caller) (map (λ t. t.1) ss))) [
      | true ↦ ap (λ l. granted_cells caller s.1 ∷ l) (seen_listed caller ss)
      | false ↦ seen_listed caller ss
    ]

pub is_eq-nat : (a b : ℕ) → is_eq (nat_cmp a b) ≡ eqb a b
is_eq-nat a b =
    ⊎_elim
    (λ (lt : a < b). ap (λ t. is_eq (cond t Less (cond (eqb a b) Equal Greater))) (lt-ltb a b lt) ∙ sym (let apart : a ≢ b = omega (arith, lt) in ne_eqb a b apart))
    (λ (le : b ≤ a). ap (λ t. is_eq (cond t Less (cond (eqb a b) Equal Greater))) (le-ltb a b le) ∙ decided (eqb a b))
    (cases_lt a b)
  where
    decided : (t : Bool) → is_eq (cond t Equal Greater) ≡ t
    decided true = refl
    decided false = refl

row_here : (p : ℕ) (s : ℕ × List Cell) (ss : List (ℕ × List Cell)) → p ≡ s.0 → option_map (λ t. t.1) (row_at p (s ∷ ss)) ≡ Some s.1
row_here p s ss same = ap (λ b. option_map (λ t. t.1) (cond b (Some s) (row_at p ss))) (is_eq-nat p s.0 ∙ eq-eqb p s.0 same)

above : (s : ℕ × List Cell) (ss : List (ℕ × List Cell)) → AllByRecursion (λ t. nat_cmp s.0 t.0 ≡ Less) ss → AllByRecursion (λ t. s.0 < t.0) ss
above s ss all = all_weaker (λ t. nat_cmp s.0 t.0 ≡ Less) (λ t. s.0 < t.0) ss (λ t less. less_from s.0 t.0 less) all

module _ (row_of_id : List ℕ → Option (List Cell)) where
  abbrev pub Each : ℕ → List Filed → List (ℕ × List Cell) → Type 0
  Each start filed rows = (i : ℕ) → i < length filed → option_map (λ s. s.1) (row_at (start + i) rows) ≡ row_of_id (option_map_or (λ f. f.id) (slice_get filed i) [])

  -- rows that stand at the numbers from one on are those of the ids in order
  pub listed : (start : ℕ) (filed : List Filed) (rows : List (ℕ × List Cell)) → PlacesRise rows → AllByRecursion (λ s. start ≤ s.0) rows → AllByRecursion (λ s. s.0 < start + length filed) rows → Each start filed rows
      → map (λ s. s.1) rows ≡ filter_map row_of_id (map (λ f. f.id) filed)
  listed start [] [] rise low high each = refl
  listed start [] (s ∷ ss) rise low high each = absurd (omega (arith, low.0, high.0))
  listed start (f ∷ fs) [] rise low high each =
      let first : None ≡ row_of_id f.id = each 0 (omega arith) in
      listed (start + 1) fs [] tt tt tt (λ i h. each (suc i) (omega (arith, h))) ∙ ap (λ o. cons_option o (filter_map row_of_id (map (λ g. g.id) fs))) first
  listed start (f ∷ fs) (s ∷ ss) rise low high each =
      let zero_more : start + 0 ≡ start = omega arith in
      let first : option_map (λ t. t.1) (row_at start (s ∷ ss)) ≡ row_of_id f.id = ap (λ p. option_map (λ t. t.1) (row_at p (s ∷ ss))) (sym zero_more) ∙ each 0 (omega arith) in
      let more : (i : ℕ) → (start + 1) + i ≡ start + suc i = λ i. omega arith in
      let low_here : start ≤ s.0 = low.0 in
      let all_above : AllByRecursion (λ t. s.0 < t.0) ss = above s ss rise.0 in
      ⊎_elim
      (λ (lt : start < s.0).
      let higher : AllByRecursion (λ t. start < t.0) (s ∷ ss) = (lt, all_weaker (λ t. s.0 < t.0) (λ t. start < t.0) ss (λ t h. omega (arith, lt, h)) all_above) in
      let none : None ≡ row_of_id f.id = ap (option_map (λ t. t.1)) (sym (no_row start (s ∷ ss) (all_weaker (λ t. start < t.0) (λ t. start ≢ t.0) (s ∷ ss) (λ t h. let differs : start ≢ t.0 = omega (arith, h) in differs) higher))) ∙ first in
      listed (start + 1) fs (s ∷ ss) rise (all_weaker (λ t. start < t.0) (λ t. start + 1 ≤ t.0) (s ∷ ss) (λ t h. omega (arith, h)) higher)
      (all_weaker (λ t. t.0 < start + length (f ∷ fs)) (λ t. t.0 < (start + 1) + length fs) (s ∷ ss) (λ t h. omega (arith, h)) high)
      (λ i h. ap (λ p. option_map (λ t. t.1) (row_at p (s ∷ ss))) (more i) ∙ each (suc i) (omega (arith, h)))
      ∙ ap (λ o. cons_option o (filter_map row_of_id (map (λ g. g.id) fs))) none)
      (λ (le : s.0 ≤ start).
      let same : start ≡ s.0 = omega (arith, le, low_here) in
      let here : Some s.1 ≡ row_of_id f.id = sym (row_here start s ss same) ∙ first in
      ap (λ l. s.1 ∷ l)
      (listed (start + 1) fs ss rise.1 (all_weaker (λ t. s.0 < t.0) (λ t. start + 1 ≤ t.0) ss (λ t h. omega (arith, same, h)) all_above)
      (all_weaker (λ t. t.0 < start + length (f ∷ fs)) (λ t. t.0 < (start + 1) + length fs) ss (λ t h. omega (arith, h)) high.1)
      (λ i h.
      let apart : (start + 1) + i ≢ s.0 = omega (arith, same) in
      ap (option_map (λ t. t.1)) (sym (row_behind ((start + 1) + i) s ss apart))
      ∙ (ap (λ p. option_map (λ t. t.1) (row_at p (s ∷ ss))) (more i) ∙ each (suc i) (omega (arith, h)))))
      ∙ ap (λ o. cons_option o (filter_map row_of_id (map (λ g. g.id) fs))) here)
      (cases_lt start s.0)

-- ---- what the log tells of each accepted crash

-- each of some crashes that are apart is found by its id
abbrev Finds : List Accepted → Accepted → Type 0
Finds crashes crash = option_and_then (λ c. c.raw) (find (has_id crash.id) crashes) ≡ crash.raw

found_own : (crashes : List Accepted) → IsApart crashes → AllByRecursion (Finds crashes) crashes
found_own [] apart = tt
found_own (crash ∷ crashes) apart = (
  ap (λ b. option_and_then (λ c. c.raw) (cond b (Some crash) (find (has_id crash.id) crashes))) ((bytes_eq-Decides crash.id crash.id).1 refl),
  all_weaker (λ other. (bytes_eq other.id crash.id ≡ false) × Finds crashes other) (Finds (crash ∷ crashes)) crashes
      (λ other both. ap (λ b. option_and_then (λ c. c.raw) (cond b (Some crash) (find (has_id other.id) crashes))) (turned_eq other.id crash.id false both.0) ∙ both.1)
      (all_both (λ other. bytes_eq other.id crash.id ≡ false) (Finds crashes) crashes apart.0 (found_own crashes apart.1)),
)

text_back : (product : Option (List ℕ)) → text_of (option_map Text product) ≡ product
text_back None = refl
text_back (Some product) = refl

-- a row has the product of the crash that it tells of
pub product_told : (raw : Crash) (row : List Cell) → TellsCrash raw row → row_product row ≡ product_of raw
product_told raw row tells = ap text_of tells.product ∙ text_back (product_of raw)

-- what is seen of a crash's row is what is seen of the row of its id
row_seen : (caller : Caller) (held : Bool) (id : List ℕ) (raw : Crash) (row : Option (List Cell)) → IfSome row (TellsCrash raw)
    → option_and_then (λ p. p.1.row) (item caller held id (Some raw) row) ≡ option_and_then (one_row caller) (if held then row else None)
row_seen caller false id raw row tells = refl
row_seen caller true id raw None tells =
    elim (shows caller.products (product_of raw)) as (λ b. option_and_then (λ p. p.1.row) (option_map (seen_under caller id None) (if b then Some raw else None)) ≡ None) [ true ↦ refl | false ↦ refl ]
row_seen caller true id raw (Some row) tells =
    elim (shows caller.products (product_of raw)) as (λ b. option_and_then (λ p. p.1.row) (option_map (seen_under caller id (Some row)) (if b then Some raw else None)) ≡ (if b then Some (granted_cells caller row) else None)) [ true ↦ refl | false ↦ refl ]
    ∙ ap (λ p. if shows caller.products p then Some (granted_cells caller row) else None) (sym (product_told raw row tells))

uuid_shown : (caller : Caller) → Granted caller uuid_field
unfolding permission_of field_entry field_table
uuid_shown caller = public caller uuid_field refl

-- what is seen of a row has the row's id
row_id : (caller : Caller) (id : List ℕ) (held : Bool) (raw : Crash) (row : Option (List Cell)) → raw.id ≡ id → IfSome row (TellsCrash raw)
    → IfSome (option_and_then (one_row caller) (if held then row else None)) (λ r. cell_value r uuid_field ≡ Some (Text id))
row_id caller id false raw row same tells = tt
row_id caller id true raw None same tells = tt
row_id caller id true raw (Some row) same tells =
    elim (shows caller.products (row_product row)) as (λ b. IfSome (if b then Some (granted_cells caller row) else None) (λ r. cell_value r uuid_field ≡ Some (Text id))) [
      | true ↦ value_seen caller row uuid_field (uuid_shown caller) ∙ (tells.id ∙ ap (λ x. Some (Text x)) same)
      | false ↦ tt
    ]

module _ (basis : Basis) (tells : RowsTell basis) (log : List Change) (caller : Caller) (legal : IsLegal basis log) (is_told : IsTrue basis.is_told) where
  -- the row of an accepted crash tells of it
  abbrev Told : Accepted → Type 0
  Told crash = (raw : Crash) × (crash.raw ≡ Some raw) × (raw.id ≡ crash.id) × IfSome (row_in basis log crash.id) (TellsCrash raw)

  tells_own : (id : List ℕ) (o : Option Crash) (raw : Crash) (row : Option (List Cell)) → o ≡ Some raw → IfSome row (λ r. IsSomeAnd o (λ c. TellsCrash c r)) → IfSome row (TellsCrash raw)
  tells_own id o raw None is all = tt
  tells_own id o raw (Some row) is all = let P : Option Crash → Type 0 = λ p. IsSomeAnd p (λ c. TellsCrash c row) in subst P is all

  told_of : (crash : Accepted) (o : Option Crash) → crash.raw ≡ o → raw_of log crash.id ≡ o → IsSome o → IfSome o (λ raw. (raw.id ≡ crash.id) × IsCrash raw) → Told crash
  told_of crash None own is some sound = absurd (true_is_not_false (sym some))
  told_of crash (Some raw) own is some sound = (raw, own, sound.0, tells_own crash.id (raw_of log crash.id) raw (row_in basis log crash.id) is (rows_tell basis tells crash.id log legal is_told))

  all_told : AllByRecursion Told (accepted_of log)
  all_told =
      all_weaker (λ crash. (IsSome crash.raw × IsSoundCrash crash) × Finds (accepted_of log) crash) Told (accepted_of log)
      (λ crash facts. told_of crash crash.raw refl facts.1 facts.0.0 facts.0.1.1)
      (all_both (λ crash. IsSome crash.raw × IsSoundCrash crash) (Finds (accepted_of log)) (accepted_of log)
      (all_both (λ crash. IsSome crash.raw) IsSoundCrash (accepted_of log) (legal.told is_told) (sound_crashes log legal.sound))
      (found_own (accepted_of log) (accepted_apart basis log legal.events_legal)))

  -- ---- the view

  abbrev rows_of : View → List (List Cell)
  rows_of view = filter_map (λ seen. seen.1.row) view

  item_row : (crash : Accepted) → Told crash → option_and_then (λ p. p.1.row) (item_of basis log caller crash) ≡ crash_row basis log caller crash.id
  item_row crash told =
      ap (λ o. option_and_then (λ p. p.1.row) (item caller (is_held (events basis log) crash.id) crash.id o (row_in basis log crash.id))) told.1
      ∙ row_seen caller (is_held (events basis log) crash.id) crash.id told.0 (row_in basis log crash.id) told.3

  item_rows : rows_of (items_of basis log caller) ≡ crash_rows basis log caller (ids_of (accepted_of log))
  item_rows =
      filter_map-twice (item_of basis log caller) (λ p. p.1.row) (accepted_of log)
      ∙ (filter_map-same (λ crash. option_and_then (λ p. p.1.row) (item_of basis log caller crash)) (λ crash. crash_row basis log caller crash.id) (accepted_of log)
      (all_weaker Told (λ crash. option_and_then (λ p. p.1.row) (item_of basis log caller crash) ≡ crash_row basis log caller crash.id) (accepted_of log) item_row all_told)
      ∙ sym (filter_map-map (λ crash. crash.id) (crash_row basis log caller) (accepted_of log)))

  -- ---- ids of their own

  abbrev HasId : List ℕ → List Cell → Type 0
  HasId id row = cell_value row uuid_field ≡ Some (Text id)

  has_id_of : (crash : Accepted) → Told crash → IfSome (crash_row basis log caller crash.id) (HasId crash.id)
  has_id_of crash told = row_id caller crash.id (is_held (events basis log) crash.id) told.0 (row_in basis log crash.id) told.2 told.3

  same_text : (a b : List ℕ) → Some (Text a) ≡ Some (Text b) → a ≡ b
  same_text a b e = cc

  differ : (id other : List ℕ) (row row' : List Cell) → bytes_eq other id ≡ false → HasId id row → HasId other row' → Differs row row'
  differ id other row row' apart here there same =
      true_is_not_false (sym ((bytes_eq-Decides other id).1 (same_text other id (sym there ∙ (sym same ∙ here)))) ∙ apart)

  differ_all : (id : List ℕ) (row : List Cell) (crashes : List Accepted) → HasId id row → AllByRecursion (λ other. bytes_eq other.id id ≡ false) crashes → AllByRecursion Told crashes
      → AllByRecursion (Differs row) (crash_rows basis log caller (ids_of crashes))
  differ_all id row [] here apart told = tt
  differ_all id row (crash ∷ crashes) here apart told =
      let rest = differ_all id row crashes here apart.1 told.1 in
      elim (crash_row basis log caller crash.id) as (λ o. IfSome o (HasId crash.id) → AllByRecursion (Differs row) (cons_option o (crash_rows basis log caller (ids_of crashes)))) [
        | None ↦ λ has. rest
        | Some other ↦ λ has. (differ id crash.id row other apart.0 here has, rest)
      ] (has_id_of crash told.0)

  own_of : (crashes : List Accepted) → IsApart crashes → AllByRecursion Told crashes → Own (crash_rows basis log caller (ids_of crashes))
  own_of [] apart told = tt
  own_of (crash ∷ crashes) apart told =
      let rest = own_of crashes apart.1 told.1 in
      elim (crash_row basis log caller crash.id) as (λ o. IfSome o (HasId crash.id) → Own (cons_option o (crash_rows basis log caller (ids_of crashes)))) [
        | None ↦ λ has. rest
        | Some row ↦ λ has. (differ_all crash.id row crashes has apart.0 told.1, rest)
      ] (has_id_of crash told.0)

  pub rows_own : Own (crash_rows basis log caller (ids_of (accepted_of log)))
  rows_own = own_of (accepted_of log) (accepted_apart basis log legal.events_legal) all_told

-- ---- a view has the rows of its items, in another order

-- the first list has the rows of the second, and ids of their own where those have
record Lists (xs ys : List (List Cell)) : Type 0 where
  to : (x : List Cell) → In x xs → In x ys
  back : (x : List Cell) → In x ys → In x xs
  own : Own ys → Own xs

in_middle : (xs ys : List (List Cell)) (r x : List Cell) → In x (xs ++ r ∷ ys) → (r ≡ x) ⊎ In x (xs ++ ys)
in_middle [] ys r x h = h
in_middle (y ∷ xs) ys r x h =
    ⊎_elim (λ (e : y ≡ x). inr (inl e)) (λ (g : In x (xs ++ r ∷ ys)). ⊎_elim (λ (e : r ≡ x). inl e) (λ (m : In x (xs ++ ys)). inr (inr m)) (in_middle xs ys r x g)) h

middle_in : (xs ys : List (List Cell)) (r x : List Cell) → (r ≡ x) ⊎ In x (xs ++ ys) → In x (xs ++ r ∷ ys)
middle_in [] ys r x h = h
middle_in (y ∷ xs) ys r x h =
    ⊎_elim (λ (e : r ≡ x). inr (middle_in xs ys r x (inl e))) (λ (g : In x (y ∷ (xs ++ ys))). ⊎_elim (λ (e : y ≡ x). inl e) (λ (m : In x (xs ++ ys)). inr (middle_in xs ys r x (inr m))) g) h

all_middle : (P : List Cell → Type 0) (xs ys : List (List Cell)) (r : List Cell) → P r → AllByRecursion P (xs ++ ys) → AllByRecursion P (xs ++ r ∷ ys)
all_middle P [] ys r here all = (here, all)
all_middle P (x ∷ xs) ys r here all = (all.0, all_middle P xs ys r here all.1)

own_middle : (xs ys : List (List Cell)) (r : List Cell) → AllByRecursion (Differs r) (xs ++ ys) → Own (xs ++ ys) → Own (xs ++ r ∷ ys)
own_middle [] ys r apart own = (apart, own)
own_middle (x ∷ xs) ys r apart own = (all_middle (Differs x) xs ys r (λ same. apart.0 (sym same)) own.0, own_middle xs ys r apart.1 own.1)

lists_more : (o : Option (List Cell)) (xs ys zs : List (List Cell)) → Lists (xs ++ ys) zs → Lists (xs ++ cons_option o ys) (cons_option o zs)
lists_more None xs ys zs lists = lists
lists_more (Some r) xs ys zs lists = record {
  to = λ x h. ⊎_elim (λ (e : r ≡ x). inl e) (λ (g : In x (xs ++ ys)). inr (lists.to x g)) (in_middle xs ys r x h);
  back = λ x h. middle_in xs ys r x (⊎_elim (λ (e : r ≡ x). inl e) (λ (g : In x zs). inr (lists.back x g)) h);
  own = λ own. own_middle xs ys r (all_from (Differs r) (xs ++ ys) (λ x h. all_in (Differs r) zs x own.0 (lists.to x h))) (lists.own own.1);
}

-- a map with one more name is the map with a pair more at some place
record Put (ps new : View) (p : List ℕ × Seen) : Type 0 where
  before : View
  behind : View
  old : ps ≡ before ++ behind
  whole : new ≡ before ++ p ∷ behind

none_is_not_some : {A : Type 0} {x : A} → Some x ≡ None → ⊥
none_is_not_some is = cc

put : (ps : View) (name : List ℕ) (seen : Seen) → value_of ps name ≡ None → Put ps (with_value ps name seen) (name, seen)
put [] name seen none = record { before = []; behind = []; old = refl; whole = refl }
put (p ∷ ps) name seen none =
    elim (slice_cmp nat_cmp name p.0) as (λ r. cond (is_eq r) (Some p.1) (value_of ps name) ≡ None
    → Put (p ∷ ps) (match_ordering r ((name, seen) ∷ p ∷ ps) ((p.0, seen) ∷ ps) (p ∷ insert_entry (slice_cmp nat_cmp) ps name seen)) (name, seen)) [
      | Less ↦ λ absent. record { before = []; behind = p ∷ ps; old = refl; whole = refl }
      | Equal ↦ λ absent. absurd (none_is_not_some absent)
      | Greater ↦ λ absent.
          let r : Put ps (with_value ps name seen) (name, seen) = put ps name seen absent in
          record { before = p ∷ r.before; behind = r.behind; old = ap (λ l. p ∷ l) r.old; whole = ap (λ l. p ∷ l) r.whole }
    ] none

abbrev AreApart : List (List ℕ × Seen) → Type 0
AreApart [] = Unit {0}
AreApart (p ∷ ps) = AllByRecursion (λ q. bytes_eq q.0 p.0 ≡ false) ps × AreApart ps

view_rows : (ps : List (List ℕ × Seen)) → AreApart ps → Lists (filter_map (λ seen. seen.1.row) (view_of_items ps)) (filter_map (λ seen. seen.1.row) ps)
view_rows [] apart = record { to = λ x h. h; back = λ x h. h; own = λ own. own }
view_rows (p ∷ ps) apart =
    let row : List ℕ × Seen → Option (List Cell) = λ seen. seen.1.row in
    let view = view_of_items ps in
    let one : Put view (with_value view p.0 p.1) (p.0, p.1) = put view p.0 p.1 (items_absent ps p.0 apart.0) in
    let before : filter_map row view ≡ filter_map row one.before ++ filter_map row one.behind = ap (filter_map row) one.old ∙ filter_map-append row one.before one.behind in
    let after : filter_map row (with_value view p.0 p.1) ≡ filter_map row one.before ++ cons_option p.1.row (filter_map row one.behind) = ap (filter_map row) one.whole ∙ filter_map-append row one.before (p ∷ one.behind) in
    subst (λ l. Lists l (cons_option p.1.row (filter_map row ps))) (sym after)
    (lists_more p.1.row (filter_map row one.before) (filter_map row one.behind) (filter_map row ps)
    (subst (λ l. Lists l (filter_map row ps)) before (view_rows ps apart.1)))

items_apart : (basis : Basis) (log : List Change) (caller : Caller) (crashes : List Accepted) → IsApart crashes → AreApart (filter_map (item_of basis log caller) crashes)
items_apart basis log caller [] apart = tt
items_apart basis log caller (crash ∷ crashes) apart =
    let later = filter_map (item_of basis log caller) crashes in
    let others : AllByRecursion (λ q. bytes_eq q.0 crash.id ≡ false) later =
    all-filter_map (item_of basis log caller) (λ q. bytes_eq q.0 crash.id ≡ false) crashes
    (all_weaker (λ other. bytes_eq other.id crash.id ≡ false) (λ other. IfSome (item_of basis log caller other) (λ q. bytes_eq q.0 crash.id ≡ false)) crashes
    (λ other differs. item_id caller (is_held (events basis log) other.id) other.id other.raw (row_in basis log other.id) (λ x. bytes_eq x crash.id ≡ false) differs) apart.0) in
    elim (item_of basis log caller crash) as (λ o. IfSome o (λ q. crash.id ≡ q.0) → AreApart (cons_option o later)) [
      | None ↦ λ own. items_apart basis log caller crashes apart.1
      | Some p ↦ λ own. (subst (λ x. AllByRecursion (λ q. bytes_eq q.0 x ≡ false) later) own others, items_apart basis log caller crashes apart.1)
    ] (item_id caller (is_held (events basis log) crash.id) crash.id crash.raw (row_in basis log crash.id) (λ x. crash.id ≡ x) refl)

-- ---- both

second_of : {X : Type 0} (n : ℕ) (xs : List X) → map (λ s. s.1) (enumerate_from n xs) ≡ xs
second_of n [] = refl
second_of n (x ∷ xs) = ap (λ l. x ∷ l) (second_of (n + 1) xs)

own_rows : (rows : List (ℕ × List Cell)) → Own (map (λ s. s.1) rows) → HaveOwnIds rows
own_rows [] own = tt
own_rows (s ∷ ss) own = (each ss own.0, own_rows ss own.1)
  where
    each : (ts : List (ℕ × List Cell)) → AllByRecursion (Differs s.1) (map (λ t. t.1) ts) → AllByRecursion (λ t. Differs s.1 t.1) ts
    each [] all = tt
    each (t ∷ ts) all = (all.0, each ts all.1)

-- the rows of a store that a caller may see and those of the caller's view are the same
pub record AreSame (rows others : List (ℕ × List Cell)) : Type 0 where
  pub own : HaveOwnIds rows
  pub other_own : HaveOwnIds others
  pub lists : ListTheSame rows others

contained : (xs ys : List (List Cell)) → ((x : List Cell) → In x xs → In x ys) → (x : List Cell) → Contains xs x → Contains ys x
contained xs ys to x c = at_in ys x (to x (in_at xs x c.0 c.1 c.2))

pub same_rows : (basis : Basis) (tells : RowsTell basis) (log : List Change) (caller : Caller) (rows : List (ℕ × List Cell)) → IsLegal basis log → IsTrue basis.is_told
    → map (λ s. s.1) rows ≡ filter_map (shown_row basis log) (ids_of (accepted_of log)) → AreSame (seen_rows caller rows) (rows_in (view_of basis log caller))
same_rows basis tells log caller rows legal is_told stored =
    let row : List ℕ × Seen → Option (List Cell) = λ seen. seen.1.row in
    let crashes : List (List Cell) = crash_rows basis log caller (ids_of (accepted_of log)) in
    let seen : map (λ s. s.1) (seen_rows caller rows) ≡ crashes =
    seen_listed caller rows ∙ (ap (filter_map (one_row caller)) stored ∙ filter_map-twice (shown_row basis log) (one_row caller) (ids_of (accepted_of log))) in
    let viewed : map (λ s. s.1) (rows_in (view_of basis log caller)) ≡ filter_map row (view_of_items (items_of basis log caller)) =
    second_of 0 (filter_map row (view_of basis log caller)) ∙ ap (filter_map row) (view_items basis log caller) in
    let lists : Lists (filter_map row (view_of_items (items_of basis log caller))) crashes =
    subst (Lists (filter_map row (view_of_items (items_of basis log caller)))) (item_rows basis tells log caller legal is_told)
    (view_rows (items_of basis log caller) (items_apart basis log caller (accepted_of log) (accepted_apart basis log legal.events_legal))) in
    let own : Own crashes = rows_own basis tells log caller legal is_told in
    let own_seen : HaveOwnIds (seen_rows caller rows) = own_rows (seen_rows caller rows) (subst Own (sym seen) own) in
    let own_viewed : HaveOwnIds (rows_in (view_of basis log caller)) = own_rows (rows_in (view_of basis log caller)) (subst Own (sym viewed) (lists.own own)) in
    let V : List (List Cell) = filter_map row (view_of_items (items_of basis log caller)) in
    record {
      own = own_seen;
      other_own = own_viewed;
      lists = λ x. (
        (λ c. subst (λ l. Contains l x) (sym viewed) (contained crashes V lists.back x (subst (λ l. Contains l x) seen c))),
        (λ c. subst (λ l. Contains l x) (sym seen) (contained V crashes lists.to x (subst (λ l. Contains l x) viewed c))),
      );
    }
