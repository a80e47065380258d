-- Rows that are walked to by the values of the first field that they are sorted by.
use Rattle.std.proofs.Common.{◌≡◌, ℕ, zero, suc, ◌+◌, ◌-◌, ◌<◌, ◌≤◌, Bool, true, false, cond, List, [], ◌∷◌, ◌++◌, Option, None, Some, length, map, filter, take, drop, get_or, refl, sym, ap, ◌∙◌, arith, subst, append-nil, append_assoc, length-append}
use Rattle.std.specs.Prelude.{◌&&◌, ◌||◌, is_none, reverse, slice_get, Contains, IfSome, All}
use Rattle.std.proofs.lemmas.List.{take_all, take_more, map-append, take-append-drop, reverse-append, length-reverse, get_or-reverse, length-map}
use Rattle.std.proofs.lemmas.List.Elements.{filter_agree, All-head, All-tail}
use Rattle.std.proofs.lemmas.List.Folds.{list_any-append}
use Rattle.std.proofs.lemmas.Option.{slice_get-get_or, get_or_from_slice_get}
use Rattle.std.specs.List.{AllByRecursion, list_any}
use Rattle.std.specs.Ordering.{is_eq, ordering_then, ordering_reverse}
use Rattle.std.specs.declared.cmp.Ordering.{Ordering}
use Rattle.std.specs.declared.cmp.Ordering.TheVariants.{Less, Equal, Greater}
use Rattle.std.proofs.lemmas.Cmp.{tied_itself}
use Rattle.soc_base.proofs.Folk.{or_true}
use Rattle.soc_schema.specs.declared.value.Value.{Value}
use Rattle.soc_schema.specs.declared.value.Cell.{Cell}
use Rattle.soc_schema.specs.Rows.{value_of}
use Rattle.soc_schema.specs.Fields.{uuid_field}
use Rattle.soc_schema.specs.Orders.{value_cmp, in_order}
use Rattle.soc_schema.specs.Tables.{Rising}
use Rattle.soc_schema.specs.Values.{is_value, values_of}
use Rattle.soc_store.specs.Stored.{PlacesRise, places_of}
use Rattle.soc_query.specs.declared.part.Sort.{Sort}
use Rattle.soc_query.specs.Answers.{row_order, value_order}
use Rattle.soc_search.specs.inner.Selections.{Selects, selected}
use Rattle.soc_search.specs.inner.Walks.{first_of, is_in_group, is_keyed, key_at, others_of, walk_of}
use Rattle.soc_search.proofs.AnswerLemmas.{kept_agree}
use Rattle.soc_search.proofs.SelectionLemmas.{are_placed, inn}
use Rattle.soc_schema.proofs.OrderLemmas.{value_total}
use Rattle.soc_search.proofs.OrderLemmas.{option_total}
use Rattle.soc_search.proofs.GroupLemmas.{Rise, groups, groups_all, groups_append, has_one}
use Rattle.soc_search.proofs.SortLemmas.{order_agree, order_length}

-- the first field decides, and then the others
then_same : (r : Ordering) → r ≡ ordering_then r r
then_same Less = refl
then_same Equal = refl
then_same Greater = refl

first_decides : (sorts : List Sort) (a b : List Cell) → row_order sorts a b ≡ ordering_then (value_order (first_of sorts).falling (value_of a (first_of sorts).field) (value_of b (first_of sorts).field)) (row_order (others_of sorts) a b)
first_decides [] a b = then_same (value_order false (value_of a uuid_field) (value_of b uuid_field))
first_decides (s ∷ ss) a b = refl

-- the keys of a walk: each value, and then none
abbrev keys_of : Bool → List Value → List (Option Value)
keys_of falling vs = map Some (walk_of falling vs) ++ None ∷ []

length_walk : (falling : Bool) (vs : List Value) → length (walk_of falling vs) ≡ length vs
length_walk true vs = length-reverse vs
length_walk false vs = refl

length_keys : (falling : Bool) (vs : List Value) → length (keys_of falling vs) ≡ suc (length vs)
length_keys falling vs = of (walk_of falling vs) ∙ ap suc (length_walk falling vs)
  where
    of : (ws : List Value) → length (map Some ws ++ None ∷ []) ≡ suc (length ws)
    of [] = refl
    of (w ∷ ws) = ap suc (of ws)

-- one key more of a walk
key_more : (falling : Bool) (vs : List Value) (i : ℕ) → i ≤ length vs → take (i + 1) (keys_of falling vs) ≡ take i (keys_of falling vs) ++ key_at falling vs i ∷ []
key_more falling vs i within =
    take_more (keys_of falling vs) i None (omega (arith, length_keys falling vs)) ∙ ap (λ o. take i (keys_of falling vs) ++ o ∷ []) (same (map Some (walk_of falling vs)) i)
  where
    same : (os : List (Option Value)) (i : ℕ) → get_or (os ++ None ∷ []) i None ≡ get_or os i None
    same [] zero = refl
    same [] (suc i) = refl
    same (o ∷ os) zero = refl
    same (o ∷ os) (suc i) = same os i

some_key : (falling : Bool) (vs : List Value) (i : ℕ) (v : Value) → slice_get (walk_of falling vs) i ≡ Some v → key_at falling vs i ≡ Some v
some_key falling vs i v at = there (walk_of falling vs) i v at
  where
    there : (us : List Value) (i : ℕ) (v : Value) → slice_get us i ≡ Some v → get_or (map Some us) i None ≡ Some v
    there [] i v e = cc
    there (u ∷ us) zero v e = e
    there (u ∷ us) (suc i) v e = there us i v e

no_key : (falling : Bool) (vs : List Value) (i : ℕ) → length vs ≤ i → key_at falling vs i ≡ None
no_key falling vs i past = out (walk_of falling vs) i (omega (arith, length_walk falling vs))
  where
    out : (us : List Value) (i : ℕ) → length us ≤ i → get_or (map Some us) i None ≡ None
    out [] zero h = refl
    out [] (suc i) h = refl
    out (u ∷ us) zero h = absurd (omega arith)
    out (u ∷ us) (suc i) h = out us i (omega arith)

-- where the first ones are the same, they are with others behind them
pub fill_more : {X : Type 0} (goal : ℕ) (a b more : List X) → take goal a ≡ take goal b → take goal (a ++ more) ≡ take goal (b ++ more)
fill_more zero a b more e = refl
fill_more (suc n) [] [] more e = refl
fill_more (suc n) [] (y ∷ ys) more e = cc
fill_more (suc n) (x ∷ xs) [] more e = cc
fill_more (suc n) (x ∷ xs) (y ∷ ys) more e =
    let first : x ≡ y = cc in
    let rest : take n xs ≡ take n ys = cc in
    ap (λ z. z ∷ take n (xs ++ more)) first ∙ ap (λ l. y ∷ l) (fill_more n xs ys more rest)

-- and where they are enough, what is behind doesn't matter
pub fill_enough : {X : Type 0} (goal : ℕ) (a b more : List X) → goal ≤ length a → take goal a ≡ take goal b → take goal a ≡ take goal (b ++ more)
fill_enough zero a b more h e = refl
fill_enough (suc n) [] b more h e = absurd (omega arith)
fill_enough (suc n) (x ∷ xs) [] more h e = cc
fill_enough (suc n) (x ∷ xs) (y ∷ ys) more h e =
    let first : x ≡ y = cc in
    let rest : take n xs ≡ take n ys = cc in
    ap (λ z. z ∷ take n xs) first ∙ ap (λ l. y ∷ l) (fill_enough n xs ys more (omega arith) rest)

same_keyed : (falling : Bool) (v : Value) (o : Option Value) → is_eq (value_order falling (Some v) o) ≡ is_value v o
same_keyed falling v None = refl
same_keyed false v (Some w) = refl
same_keyed true v (Some w) = back (value_cmp v w)
  where
    back : (r : Ordering) → is_eq (ordering_reverse r) ≡ is_eq r
    back Less = refl
    back Equal = refl
    back Greater = refl

none_keyed : (falling : Bool) (o : Option Value) → is_eq (value_order falling None o) ≡ is_none o
none_keyed falling None = refl
none_keyed falling (Some w) = refl

or_swapped : (a b : Bool) → (a || b) ≡ (b || a)
or_swapped true true = refl
or_swapped true false = refl
or_swapped false true = refl
or_swapped false false = refl

module _ (sorts : List Sort) where
  abbrev falls : Bool
  falls = (first_of sorts).falling

  abbrev key : List Cell → Option Value
  key row = value_of row (first_of sorts).field

  abbrev rising : List (Option Value) → Type 0
  rising cs = Rise key (value_order falls) (option_total falls) (row_order (others_of sorts)) cs

  abbrev listed : List (Option Value) → List (List Cell) → List (List Cell)
  listed cs rows = groups key (value_order falls) (option_total falls) (row_order (others_of sorts)) cs rows

  abbrev any_key : List (Option Value) → List Cell → Bool
  any_key cs row = has_one key (value_order falls) (option_total falls) (row_order (others_of sorts)) cs row

  -- keys that rise before others that are above them
  up_before : (falling : Bool) (vs : List Value) (tail : List (Option Value)) → falling ≡ false → falling ≡ falls → Rising (λ v. v) value_cmp vs → rising tail → AllByRecursion (λ v. AllByRecursion (λ d. value_order falls (Some v) d ≡ Less) tail) vs → rising (map Some vs ++ tail)
  up_before falling [] tail up is rise r all = r
  up_before falling (v ∷ vs) tail up is rise r all = (above vs rise.0, up_before falling vs tail up is rise.1 r all.1)
    where
      less : (w : Value) → value_cmp v w ≡ Less → value_order falls (Some v) (Some w) ≡ Less
      less w e = subst (λ b. value_order b (Some v) (Some w) ≡ Less) (sym up ∙ is) e

      above : (ws : List Value) → AllByRecursion (λ w. value_cmp v w ≡ Less) ws → AllByRecursion (λ d. value_order falls (Some v) d ≡ Less) (map Some ws ++ tail)
      above [] a = all.0
      above (w ∷ ws) a = (less w a.0, above ws a.1)

  down_before : (falling : Bool) (vs : List Value) (tail : List (Option Value)) → falling ≡ true → falling ≡ falls → Rising (λ v. v) value_cmp vs → rising tail → AllByRecursion (λ v. AllByRecursion (λ d. value_order falls (Some v) d ≡ Less) tail) vs → rising (map Some (reverse vs) ++ tail)
  down_before falling [] tail down is rise r all = r
  down_before falling (v ∷ vs) tail down is rise r all =
      subst rising (sym (ap (λ l. map Some l ++ tail) (reverse-append (v ∷ []) vs) ∙ ap (λ l. l ++ tail) (map-append Some (reverse vs) (v ∷ [])) ∙ append_assoc (map Some (reverse vs)) (Some v ∷ []) tail))
      (down_before falling vs (Some v ∷ tail) down is rise.1 (all.0, r) (above vs rise.0 all.1))
    where
      less : (w : Value) → value_cmp v w ≡ Less → value_order falls (Some w) (Some v) ≡ Less
      less w e = subst (λ b. value_order b (Some w) (Some v) ≡ Less) (sym down ∙ is) (ap ordering_reverse (value_total.antisymm w v ∙ ap ordering_reverse e))

      above : (ws : List Value) → AllByRecursion (λ w. value_cmp v w ≡ Less) ws → AllByRecursion (λ w. AllByRecursion (λ d. value_order falls (Some w) d ≡ Less) tail) ws → AllByRecursion (λ w. AllByRecursion (λ d. value_order falls (Some w) d ≡ Less) (Some v ∷ tail)) ws
      above [] a b = tt
      above (w ∷ ws) a b = ((less w a.0, b.0), above ws a.1 b.1)

  none_last : (vs : List Value) → AllByRecursion (λ v. AllByRecursion (λ d. value_order falls (Some v) d ≡ Less) (None ∷ [])) vs
  none_last [] = tt
  none_last (v ∷ vs) = ((refl, tt), none_last vs)

  keys_rise : (vs : List Value) → Rising (λ v. v) value_cmp vs → rising (keys_of falls vs)
  keys_rise vs rise =
      elim falls as (λ b. b ≡ falls → rising (map Some (walk_of b vs) ++ None ∷ [])) [
        | true ↦ λ e. down_before true vs (None ∷ []) refl e rise (tt, tt) (none_last vs)
        | false ↦ λ e. up_before false vs (None ∷ []) refl e rise (tt, tt) (none_last vs)
      ] refl

  -- each row has one of the keys
  any_walked : (p : Option Value → Bool) (b : Bool) (vs : List Value) → list_any p (map Some (walk_of b vs)) ≡ list_any p (map Some vs)
  any_walked p false vs = refl
  any_walked p true [] = refl
  any_walked p true (v ∷ vs) =
      ap (λ l. list_any p (map Some l)) (reverse-append (v ∷ []) vs) ∙ ap (list_any p) (map-append Some (reverse vs) (v ∷ [])) ∙ list_any-append p (map Some (reverse vs)) (Some v ∷ [])
      ∙ ap (λ b. b || (p (Some v) || false)) (any_walked p true vs) ∙ or_swapped (list_any p (map Some vs)) (p (Some v) || false) ∙ ap (λ b. b || list_any p (map Some vs)) (or_false (p (Some v)))
    where
      or_false : (b : Bool) → (b || false) ≡ b
      or_false true = refl
      or_false false = refl

  found_key : (p : Option Value → Bool) (vs : List Value) (k : ℕ) (w : Value) → k < length vs → get_or vs k w ≡ w → p (Some w) ≡ true → list_any p (map Some vs) ≡ true
  found_key p [] k w h e t = absurd (omega arith)
  found_key p (v ∷ vs) zero w h e t = ap (λ b. b || list_any p (map Some vs)) (ap (λ u. p (Some u)) e ∙ t)
  found_key p (v ∷ vs) (suc k) w h e t = ap (λ b. p (Some v) || b) (found_key p vs k w (omega arith) e t) ∙ or_true (p (Some v))

  row_keyed : (vs : List Value) (row : List Cell) → IfSome (key row) (Contains vs) → any_key (keys_of falls vs) row ≡ true
  row_keyed vs row has_it =
      let p : Option Value → Bool = λ c. is_eq (value_order falls c (key row)) in
      list_any-append p (map Some (walk_of falls vs)) (None ∷ [])
      ∙ elim (key row) as (λ o. IfSome o (Contains vs) → (list_any (λ c. is_eq (value_order falls c o)) (map Some (walk_of falls vs)) || (is_eq (value_order falls None o) || false)) ≡ true) [
        | None ↦ λ _. or_true (list_any (λ c. is_eq (value_order falls c None)) (map Some (walk_of falls vs)))
        | Some w ↦ λ c. ap (λ b. b || (is_eq (value_order falls None (Some w)) || false))
            (any_walked (λ d. is_eq (value_order falls d (Some w))) falls vs ∙ found_key (λ d. is_eq (value_order falls d (Some w))) vs c.0 w c.1 c.2 (ap is_eq (tied_itself (option_total falls) (Some w))))
      ] has_it

  rows_keyed : (vs : List Value) (rows : List (List Cell)) → AllByRecursion (λ row. IfSome (key row) (Contains vs)) rows → AllByRecursion (λ row. any_key (keys_of falls vs) row ≡ true) rows
  rows_keyed vs [] all = tt
  rows_keyed vs (row ∷ rows) all = (row_keyed vs row all.0, rows_keyed vs rows all.1)

  module _ (vs : List Value) (rows : List (List Cell)) (rise : Rising (λ v. v) value_cmp vs) (keyed_all : AllByRecursion (λ row. IfSome (key row) (Contains vs)) rows) where
    whole : in_order (row_order sorts) rows ≡ listed (keys_of falls vs) rows
    whole =
        order_agree (row_order sorts) (λ a b. ordering_then (value_order falls (key a) (key b)) (row_order (others_of sorts) a b)) (first_decides sorts) rows
        ∙ groups_all key (value_order falls) (option_total falls) (row_order (others_of sorts)) (keys_of falls vs) rows (keys_rise vs rise) (rows_keyed vs rows keyed_all)

    split : (i : ℕ) → in_order (row_order sorts) rows ≡ listed (take i (keys_of falls vs)) rows ++ listed (drop i (keys_of falls vs)) rows
    split i =
        whole ∙ ap (λ cs. listed cs rows) (sym (take-append-drop i (keys_of falls vs)))
        ∙ groups_append key (value_order falls) (option_total falls) (row_order (others_of sorts)) (take i (keys_of falls vs)) (drop i (keys_of falls vs)) rows

    one_more : (i : ℕ) → i ≤ length vs → listed (take (i + 1) (keys_of falls vs)) rows ≡ listed (take i (keys_of falls vs)) rows ++ in_order (row_order (others_of sorts)) (filter (is_keyed (first_of sorts) (key_at falls vs i)) rows)
    one_more i within =
        ap (λ cs. listed cs rows) (key_more falls vs i within)
        ∙ groups_append key (value_order falls) (option_total falls) (row_order (others_of sorts)) (take i (keys_of falls vs)) (key_at falls vs i ∷ []) rows
        ∙ ap (λ l. listed (take i (keys_of falls vs)) rows ++ l) (append-nil (in_order (row_order (others_of sorts)) (filter (is_keyed (first_of sorts) (key_at falls vs i)) rows)))

-- the value at an index of a walk
value_walked : (falling : Bool) (vs : List Value) (i k : ℕ) (v : Value) → i < length vs → k ≡ cond falling (length vs - 1 - i) i → slice_get vs k ≡ Some v → slice_get (walk_of falling vs) i ≡ Some v
value_walked false vs i k v within is at = ap (slice_get vs) (sym is) ∙ at
value_walked true vs i k v within is at =
    slice_get-get_or (reverse vs) i v (omega (arith, within, length-reverse vs)) ∙ ap Some (get_or-reverse vs i v within ∙ ap (λ n. get_or vs n v) (sym is) ∙ get_or_from_slice_get vs k v v at)

-- of the rows at places those that are selected
pub both_kept : (set : ℕ → Bool) (test : List Cell → Bool) (rows : List (ℕ × List Cell)) → filter set (map (λ s. s.0) (filter (λ s. test s.1) rows)) ≡ map (λ s. s.0) (filter (λ s. set s.0 && test s.1) rows)
both_kept set test [] = refl
both_kept set test (s ∷ ss) =
    let rest = both_kept set test ss in
    elim (test s.1) as (λ b. filter set (map (λ t. t.0) (cond b (s ∷ filter (λ t. test t.1) ss) (filter (λ t. test t.1) ss))) ≡ map (λ t. t.0) (cond (set s.0 && b) (s ∷ filter (λ t. set t.0 && test t.1) ss) (filter (λ t. set t.0 && test t.1) ss))) [
      | true ↦ elim (set s.0) as (λ b. cond b (s.0 ∷ filter set (map (λ t. t.0) (filter (λ t. test t.1) ss))) (filter set (map (λ t. t.0) (filter (λ t. test t.1) ss))) ≡ map (λ t. t.0) (cond (b && true) (s ∷ filter (λ t. set t.0 && test t.1) ss) (filter (λ t. set t.0 && test t.1) ss))) [
        | true ↦ ap (λ l. s.0 ∷ l) rest
        | false ↦ rest
      ]
      | false ↦ rest ∙ elim (set s.0) as (λ b. map (λ t. t.0) (filter (λ t. set t.0 && test t.1) ss) ≡ map (λ t. t.0) (cond (b && false) (s ∷ filter (λ t. set t.0 && test t.1) ss) (filter (λ t. set t.0 && test t.1) ss))) [ true ↦ refl | false ↦ refl ]
    ]

pub both_rows : (set : ℕ → Bool) (test : List Cell → Bool) (rows : List (ℕ × List Cell)) → map (λ s. s.1) (filter (λ s. set s.0 && test s.1) rows) ≡ filter test (map (λ s. s.1) (filter (λ s. set s.0) rows))
both_rows set test [] = refl
both_rows set test (s ∷ ss) =
    let rest = both_rows set test ss in
    elim (set s.0) as (λ b. map (λ t. t.1) (cond (b && test s.1) (s ∷ filter (λ t. set t.0 && test t.1) ss) (filter (λ t. set t.0 && test t.1) ss)) ≡ filter test (map (λ t. t.1) (cond b (s ∷ filter (λ t. set t.0) ss) (filter (λ t. set t.0) ss)))) [
      | true ↦ elim (test s.1) as (λ b. map (λ t. t.1) (cond b (s ∷ filter (λ t. set t.0 && test t.1) ss) (filter (λ t. set t.0 && test t.1) ss)) ≡ cond b (s.1 ∷ filter test (map (λ t. t.1) (filter (λ t. set t.0) ss))) (filter test (map (λ t. t.1) (filter (λ t. set t.0) ss)))) [
        | true ↦ ap (λ l. s.1 ∷ l) rest
        | false ↦ rest
      ]
      | false ↦ rest
    ]

-- each selected row's value is among those of the store
pub selected_values : (set : ℕ → Bool) (f : ℕ) (vs : List Value) (rows : List (ℕ × List Cell)) → All (λ s. IfSome (value_of s.1 f) (Contains vs)) rows → AllByRecursion (λ row. IfSome (value_of row f) (Contains vs)) (map (λ s. s.1) (filter (λ s. set s.0) rows))
selected_values set f vs [] all = tt
selected_values set f vs (s ∷ ss) all =
    let more : All (λ t. IfSome (value_of t.1 f) (Contains vs)) ss = All-tail (λ t. IfSome (value_of t.1 f) (Contains vs)) s ss all in
    let here : IfSome (value_of s.1 f) (Contains vs) = All-head (λ t. IfSome (value_of t.1 f) (Contains vs)) s ss all in
    elim (set s.0) as (λ b. AllByRecursion (λ row. IfSome (value_of row f) (Contains vs)) (map (λ t. t.1) (cond b (s ∷ filter (λ t. set t.0) ss) (filter (λ t. set t.0) ss)))) [
      | true ↦ (here, selected_values set f vs ss more)
      | false ↦ selected_values set f vs ss more
    ]

-- no set selects each row
pub every_row : (rows : List (ℕ × List Cell)) → Selects (selected None) (λ _. true) rows
every_row [] = tt
every_row (s ∷ ss) = (refl, every_row ss)

-- the places of a group of a walk
pub value_group : (s : Sort) (store : List (ℕ × List Cell)) (i k : ℕ) (v : Value) → i < length (values_of s.field store) → k ≡ cond s.falling (length (values_of s.field store) - 1 - i) i → slice_get (values_of s.field store) k ≡ Some v
    → places_of s.field v store ≡ map (λ t. t.0) (filter (λ t. is_in_group s store i t.1) store)
value_group s store i k v within is at =
    let here : key_at s.falling (values_of s.field store) i ≡ Some v = some_key s.falling (values_of s.field store) i v (value_walked s.falling (values_of s.field store) i k v within is at) in
    ap (map (λ t. t.0)) (filter_agree (λ t. is_value v (value_of t.1 s.field)) (λ t. is_in_group s store i t.1) (λ t. sym (ap (λ key. is_keyed s key t.1) here ∙ same_keyed s.falling v (value_of t.1 s.field))) store)

pub keyless_group : (s : Sort) (store : List (ℕ × List Cell)) (i : ℕ) → length (values_of s.field store) ≤ i → map (λ t. t.0) (filter (λ t. is_none (value_of t.1 s.field)) store) ≡ map (λ t. t.0) (filter (λ t. is_in_group s store i t.1) store)
keyless_group s store i past =
    let here : key_at s.falling (values_of s.field store) i ≡ None = no_key s.falling (values_of s.field store) i past in
    ap (map (λ t. t.0)) (filter_agree (λ t. is_none (value_of t.1 s.field)) (λ t. is_in_group s store i t.1) (λ t. sym (ap (λ key. is_keyed s key t.1) here ∙ none_keyed s.falling (value_of t.1 s.field))) store)

-- the rows at the places of rows
pub rows_placed : (group : ℕ → Bool) (test : ℕ × List Cell → Bool) (rows : List (ℕ × List Cell)) (places : List ℕ) → PlacesRise rows → places ≡ map (λ s. s.0) (filter test rows) → ((p : ℕ) → group p ≡ inn p places) → filter (λ s. group s.0) rows ≡ filter test rows
rows_placed group test rows places rise are puts = kept_agree (λ s. group s.0) test rows (each rows (are_placed test rows rise))
  where
    each : (ss : List (ℕ × List Cell)) → AllByRecursion (λ s. inn s.0 (map (λ t. t.0) (filter test rows)) ≡ test s) ss → AllByRecursion (λ s. group s.0 ≡ test s) ss
    each [] all = tt
    each (s ∷ ss) all = (puts s.0 ∙ ap (inn s.0) are ∙ all.0, each ss all.1)

-- the selected rows of the first groups of a walk over a store, in order
abbrev pub groups_to : List Sort → List (ℕ × List Cell) → (ℕ → Bool) → ℕ → List (List Cell)
groups_to sorts store set i = listed sorts (take i (keys_of (first_of sorts).falling (values_of (first_of sorts).field store))) (map (λ s. s.1) (filter (λ s. set s.0) store))

module _ (sorts : List Sort) (store : List (ℕ × List Cell)) (set : ℕ → Bool) (sort : Sort) (same : sort ≡ first_of sorts) (rising_values : Rising (λ v. v) value_cmp (values_of sort.field store))
    (each : All (λ s. IfSome (value_of s.1 sort.field) (Contains (values_of sort.field store))) store) where
  abbrev vs : List Value
  vs = values_of (first_of sorts).field store

  abbrev chosen : List (List Cell)
  chosen = map (λ s. s.1) (filter (λ s. set s.0) store)

  rise_all : Rising (λ v. v) value_cmp (values_of (first_of sorts).field store)
  rise_all = subst (λ (s : Sort). Rising (λ v. v) value_cmp (values_of s.field store)) same rising_values

  keyed_rows : AllByRecursion (λ row. IfSome (value_of row (first_of sorts).field) (Contains (values_of (first_of sorts).field store))) (map (λ s. s.1) (filter (λ s. set s.0) store))
  keyed_rows =
      selected_values set (first_of sorts).field vs store
      (subst (λ (s : Sort). All (λ t. IfSome (value_of t.1 s.field) (Contains (values_of s.field store))) store) same each)

  -- one group more
  more : (i : ℕ) → i ≤ length (values_of sort.field store)
      → groups_to sorts store set (i + 1) ≡ groups_to sorts store set i ++ in_order (row_order (others_of sorts)) (map (λ s. s.1) (filter (λ s. set s.0 && is_in_group sort store i s.1) store))
  more i within =
      one_more sorts vs chosen rise_all keyed_rows i (subst (λ (s : Sort). i ≤ length (values_of s.field store)) same within)
      ∙ ap (λ l. groups_to sorts store set i ++ in_order (row_order (others_of sorts)) l)
      (sym (ap (λ (s : Sort). map (λ t. t.1) (filter (λ t. set t.0 && is_in_group s store i t.1) store)) same ∙ both_rows set (is_in_group (first_of sorts) store i) store))

  pub filled_more : (goal i : ℕ) (old now next : List (List Cell)) (others : List Sort) → i ≤ length (values_of sort.field store) → others ≡ others_of sorts → take goal now ≡ take goal (old ++ groups_to sorts store set i)
      → take goal next ≡ take goal (now ++ in_order (row_order others) (map (λ s. s.1) (filter (λ s. set s.0 && is_in_group sort store i s.1) store))) → take goal next ≡ take goal (old ++ groups_to sorts store set (i + 1))
  filled_more goal i old now next others within are so_far put =
      let group : List (List Cell) = map (λ s. s.1) (filter (λ s. set s.0 && is_in_group sort store i s.1) store) in
      put ∙ ap (λ ss. take goal (now ++ in_order (row_order ss) group)) are ∙ fill_more goal now (old ++ groups_to sorts store set i) (in_order (row_order (others_of sorts)) group) so_far
      ∙ ap (take goal) (append_assoc old (groups_to sorts store set i) (in_order (row_order (others_of sorts)) group) ∙ ap (λ l. old ++ l) (sym (more i within)))

  pub filled_enough : (goal i : ℕ) (old now : List (List Cell)) → goal ≤ length now → take goal now ≡ take goal (old ++ groups_to sorts store set i) → take goal now ≡ take goal (old ++ in_order (row_order sorts) (map (λ s. s.1) (filter (λ s. set s.0) store)))
  filled_enough goal i old now enough so_far =
      let behind : List (List Cell) = listed sorts (drop i (keys_of (first_of sorts).falling vs)) chosen in
      fill_enough goal now (old ++ groups_to sorts store set i) behind enough so_far
      ∙ ap (take goal) (append_assoc old (groups_to sorts store set i) behind ∙ ap (λ l. old ++ l) (sym (split sorts vs chosen rise_all keyed_rows i)))

  pub filled_all : (goal i : ℕ) (old now : List (List Cell)) → length (values_of sort.field store) < i → take goal now ≡ take goal (old ++ groups_to sorts store set i) → take goal now ≡ take goal (old ++ in_order (row_order sorts) (map (λ s. s.1) (filter (λ s. set s.0) store)))
  filled_all goal i old now past so_far =
      let all : length (keys_of (first_of sorts).falling vs) ≤ i = omega (arith, length_keys (first_of sorts).falling vs, ap (λ (s : Sort). length (values_of s.field store)) same, past) in
      so_far
      ∙ ap (λ cs. take goal (old ++ listed sorts cs chosen)) (take_all i (keys_of (first_of sorts).falling vs) all)
      ∙ ap (λ l. take goal (old ++ l)) (sym (whole sorts vs chosen rise_all keyed_rows))

  -- no more are read than there are
  pub steps_more : (i start old new n : ℕ) → i ≤ length (values_of sort.field store) → old ≤ start + length (groups_to sorts store set i) → new ≤ old + n → n ≡ length (filter (λ s. set s.0 && is_in_group sort store i s.1) store)
      → new ≤ start + length (groups_to sorts store set (i + 1))
  steps_more i start old new n within few read is =
      let group : List (ℕ × List Cell) = filter (λ s. set s.0 && is_in_group sort store i s.1) store in
      omega (arith, few, read, is, ap length (more i within), length-append (groups_to sorts store set i) (in_order (row_order (others_of sorts)) (map (λ s. s.1) group)), order_length (row_order (others_of sorts)) (map (λ s. s.1) group), length-map group (λ s. s.1))

  pub steps_all : (i start n : ℕ) → n ≤ start + length (groups_to sorts store set i) → n ≤ start + length (filter (λ s. set s.0) store)
  steps_all i start n few =
      let behind : List (List Cell) = listed sorts (drop i (keys_of (first_of sorts).falling vs)) chosen in
      omega (arith, few, ap length (split sorts vs chosen rise_all keyed_rows i), length-append (groups_to sorts store set i) behind, order_length (row_order sorts) chosen, length-map (filter (λ s. set s.0) store) (λ s. s.1))
