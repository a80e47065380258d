-- The lines of the ids of held crashes, in order, are those of a view.
use Rattle.std.proofs.Common.{◌≡◌, ℕ, zero, suc, ◌<◌, Bool, true, false, not, ◌||◌, ◌+◌, ◌≤◌, cond, List, [], ◌∷◌, ◌++◌, length, get_or, map, take, drop, Option, None, Some, refl, sym, ap, ◌∙◌, subst, add-one}
use Rattle.std.specs.Prelude.{bytes_eq, filter, filter_map, if◌then◌else◌, unwrap_or}
use Rattle.std.specs.List.{AllByRecursion, concat, cons_option}
use Rattle.std.specs.List.Sorted.{IsStrictlySortedBy}
use Rattle.std.specs.BTreeMap.{insert_entry}
use Rattle.std.specs.Cmp.Lexicographic.{nat_list_cmp_total}
use Rattle.std.specs.Map.{keys_of}
use Rattle.std.specs.Option.{option_and_then, option_map}
use Rattle.std.specs.Ordering.{match_ordering, is_eq, is_gt, ordering_reverse}
use Rattle.std.specs.declared.cmp.Ordering.TheVariants.{Less, Equal, Greater}
use Rattle.std.proofs.lemmas.List.{append-nil, take-append-drop, take_all}
use Rattle.std.proofs.lemmas.List.Elements.{filter_map-append}
use Rattle.std.proofs.lemmas.List.Folds.{concat-append}
use Rattle.std.proofs.lemmas.Map.Text.{is_eq-slice_cmp}
use Rattle.std.proofs.lemmas.Slice.Eq.{bytes_eq-Decides}
use Rattle.std.proofs.Math.Seq.{take-suc}
use Rattle.soc_base.specs.Names.{IsRising, byte_cmp, value_of}
use Rattle.soc_base.proofs.Folk.{and_parts}
use Rattle.soc_base.proofs.Places.{rising_inserted}
use Rattle.soc_edge.specs.Told.{Told, Writes, WritesFront}
use Rattle.soc_edge.proofs.Told.{Writes-append, Writes-none, WritesFront-behind, WritesFront-longer}
use Rattle.soc_raw.specs.Record.{Crash}
use Rattle.soc_schema.specs.declared.caller.Caller.{Caller}
use Rattle.soc_schema.specs.declared.value.Cell.{Cell}
use Rattle.soc_schema.specs.Orders.{in_order, put_in_order}
use Rattle.soc_schema.specs.Permits.{shows}
use Rattle.soc_schema.specs.Reports.{product_of}
use Rattle.soc_ledger.specs.Events.{accepted_ids, held_ids, is_among, is_held, was_withdrawn}
use Rattle.soc_ledger.specs.Legal.{IsLegal}
use Rattle.soc_desk.specs.Basis.{Basis}
use Rattle.soc_desk.specs.Log.{Accepted, Change, accept, ask, withdraw, report, keep, done, stop, accepted_of, crashes_of, events, row_in}
use Rattle.soc_desk.specs.View.{View, seen_of, view_of, view_of_crashes, view_with}
use Rattle.soc_desk.proofs.Logs.{IsApart, accepted_apart}
use Rattle.soc_desk.proofs.Views.{true_is_not_false, turned_eq}
use Rattle.soc_book.specs.Ids.{in_id_order}
use Rattle.soc_export.specs.Lines.{WritesSome, lines_of, row_line}
use Rattle.soc_export.specs.inner.Telling.{line_in}

-- ---- texts by their bytes

differs : (x y : List ℕ) → byte_cmp x y ≡ Less → bytes_eq x y ≡ false
differs x y less = sym (is_eq-slice_cmp x y) ∙ ap is_eq less

turned : (x y : List ℕ) → byte_cmp x y ≡ Less → byte_cmp y x ≡ Greater
turned x y less = nat_list_cmp_total.antisymm y x ∙ ap ordering_reverse less

above_all : (x y : List ℕ) (zs : List (List ℕ)) → byte_cmp x y ≡ Less → AllByRecursion (λ z. byte_cmp y z ≡ Less) zs → AllByRecursion (λ z. byte_cmp x z ≡ Less) zs
above_all x y [] less all = tt
above_all x y (z ∷ zs) less all = (nat_list_cmp_total.trans x y z less all.0, above_all x y zs less all.1)

-- what is so of all is so of each of them
of_each : (P : List ℕ → Type 0) (ids : List (List ℕ)) (id : List ℕ) → AllByRecursion P ids → is_among ids id ≡ true → P id
of_each P [] id all among = absurd (true_is_not_false (sym among))
of_each P (x ∷ ids) id all among =
    elim (bytes_eq x id) as (λ b. bytes_eq x id ≡ b → (b || is_among ids id) ≡ true → P id) [
      | true ↦ λ same _. subst P ((bytes_eq-Decides x id).0 same) all.0
      | false ↦ λ _ more. of_each P ids id all.1 more
    ] refl among

-- ---- ids in order

put_all : (P : List ℕ → Type 0) (x : List ℕ) (ys : List (List ℕ)) → P x → AllByRecursion P ys → AllByRecursion P (put_in_order byte_cmp x ys)
put_all P x [] here all = (here, tt)
put_all P x (y ∷ ys) here all =
    elim (is_gt (byte_cmp x y)) as (λ b. AllByRecursion P (cond b (y ∷ put_in_order byte_cmp x ys) (x ∷ y ∷ ys))) [
      | true ↦ (all.0, put_all P x ys here all.1)
      | false ↦ (here, (all.0, all.1))
    ]

order_all : (P : List ℕ → Type 0) (xs : List (List ℕ)) → AllByRecursion P xs → AllByRecursion P (in_order byte_cmp xs)
order_all P [] all = tt
order_all P (x ∷ xs) all = put_all P x (in_order byte_cmp xs) all.0 (order_all P xs all.1)

-- none of them stands twice
abbrev AreApart : List (List ℕ) → Type 0
AreApart [] = Unit {0}
AreApart (id ∷ ids) = AllByRecursion (λ other. bytes_eq other id ≡ false) ids × AreApart ids

put_rises : (x : List ℕ) (ys : List (List ℕ)) → AllByRecursion (λ y. bytes_eq y x ≡ false) ys → IsStrictlySortedBy byte_cmp ys → IsStrictlySortedBy byte_cmp (put_in_order byte_cmp x ys)
unfolding IsStrictlySortedBy
put_rises x [] apart rising = (tt, tt)
put_rises x (y ∷ ys) apart rising =
    elim (byte_cmp x y) as (λ r. byte_cmp x y ≡ r → IsStrictlySortedBy byte_cmp (cond (is_gt r) (y ∷ put_in_order byte_cmp x ys) (x ∷ y ∷ ys))) [
      | Less ↦ λ less. ((less, above_all x y ys less rising.0), rising)
      | Equal ↦ λ same. absurd (true_is_not_false (sym (ap is_eq same) ∙ (is_eq-slice_cmp x y ∙ turned_eq y x false apart.0)))
      | Greater ↦ λ over. (put_all (λ z. byte_cmp y z ≡ Less) x ys (nat_list_cmp_total.antisymm y x ∙ ap ordering_reverse over) rising.0, put_rises x ys apart.1 rising.1)
    ] refl

order_rises : (xs : List (List ℕ)) → AreApart xs → IsStrictlySortedBy byte_cmp (in_order byte_cmp xs)
unfolding IsStrictlySortedBy
order_rises [] apart = tt
order_rises (x ∷ xs) apart = put_rises x (in_order byte_cmp xs) (order_all (λ y. bytes_eq y x ≡ false) xs apart.0) (order_rises xs apart.1)

put_among : (x id : List ℕ) (ys : List (List ℕ)) → (bytes_eq x id || is_among ys id) ≡ true → is_among (put_in_order byte_cmp x ys) id ≡ true
put_among x id [] among = among
put_among x id (y ∷ ys) among =
    elim (is_gt (byte_cmp x y)) as (λ b. is_among (cond b (y ∷ put_in_order byte_cmp x ys) (x ∷ y ∷ ys)) id ≡ true) [
      | true ↦ elim (bytes_eq y id) as (λ e. (bytes_eq x id || (e || is_among ys id)) ≡ true → (e || is_among (put_in_order byte_cmp x ys) id) ≡ true) [
        | true ↦ λ _. refl
        | false ↦ λ more. put_among x id ys more
      ] among
      | false ↦ among
    ]

order_among : (id : List ℕ) (xs : List (List ℕ)) → is_among xs id ≡ true → is_among (in_order byte_cmp xs) id ≡ true
order_among id [] among = among
order_among id (x ∷ xs) among =
    put_among x id (in_order byte_cmp xs)
    (elim (bytes_eq x id) as (λ e. (e || is_among xs id) ≡ true → (e || is_among (in_order byte_cmp xs) id) ≡ true) [ true ↦ λ _. refl | false ↦ λ more. order_among id xs more ] among)

-- ---- what a map has of names in order

-- names above an id are among those behind it
among_rest : (id : List ℕ) (ids keys : List (List ℕ)) → AllByRecursion (λ key. byte_cmp id key ≡ Less) keys → AllByRecursion (λ key. is_among (id ∷ ids) key ≡ true) keys
    → AllByRecursion (λ key. is_among ids key ≡ true) keys
among_rest id ids [] above among = tt
among_rest id ids (key ∷ keys) above among =
    (sym (ap (λ b. b || is_among ids key) (differs id key above.0)) ∙ among.0, among_rest id ids keys above.1 among.1)

module _ {V : Type 0} where
  abbrev having : List (List ℕ × V) → List ℕ → Option (List ℕ × V)
  having ps id = option_map (λ value. (id, value)) (value_of ps id)

  lacks : (ps : List (List ℕ × V)) (id : List ℕ) → AllByRecursion (λ key. byte_cmp id key ≡ Less) (keys_of ps) → value_of ps id ≡ None
  lacks [] id all = refl
  lacks (p ∷ ps) id all = ap (λ r. cond (is_eq r) (Some p.1) (value_of ps id)) all.0 ∙ lacks ps id all.1

  none_had : (ids : List (List ℕ)) → filter_map (having []) ids ≡ []
  none_had [] = refl
  none_had (id ∷ ids) = none_had ids

  -- ids behind the first name aren't it
  first_passed : (p : List ℕ × V) (ps : List (List ℕ × V)) (ids : List (List ℕ)) → AllByRecursion (λ id. byte_cmp p.0 id ≡ Less) ids
      → filter_map (having (p ∷ ps)) ids ≡ filter_map (having ps) ids
  first_passed p ps [] all = refl
  first_passed p ps (id ∷ ids) all =
      ap (λ r. cons_option (option_map (λ value. (id, value)) (cond (is_eq r) (Some p.1) (value_of ps id))) (filter_map (having (p ∷ ps)) ids)) (turned p.0 id all.0)
      ∙ ap (cons_option (having ps id)) (first_passed p ps ids all.1)

  -- it has its own pairs, where each name is among them
  all_had : (ids : List (List ℕ)) (ps : List (List ℕ × V)) → IsStrictlySortedBy byte_cmp ids → IsStrictlySortedBy byte_cmp (keys_of ps)
      → AllByRecursion (λ key. is_among ids key ≡ true) (keys_of ps) → filter_map (having ps) ids ≡ ps
  unfolding IsStrictlySortedBy
  all_had ids [] rising rises among = none_had ids
  all_had [] (p ∷ ps) rising rises among = absurd (true_is_not_false (sym among.0))
  all_had (id ∷ ids) (p ∷ ps) rising rises among =
      elim (byte_cmp id p.0) as (λ r. byte_cmp id p.0 ≡ r → filter_map (having (p ∷ ps)) (id ∷ ids) ≡ p ∷ ps) [
        | Less ↦ λ less.
            let above : AllByRecursion (λ key. byte_cmp id key ≡ Less) (keys_of (p ∷ ps)) = (less, above_all id p.0 (keys_of ps) less rises.0) in
            ap (λ o. cons_option (option_map (λ value. (id, value)) o) (filter_map (having (p ∷ ps)) ids)) (lacks (p ∷ ps) id above)
            ∙ all_had ids (p ∷ ps) rising.1 rises (among_rest id ids (keys_of (p ∷ ps)) above among)
        | Equal ↦ λ same.
            let is : id ≡ p.0 = (bytes_eq-Decides id p.0).0 (sym (is_eq-slice_cmp id p.0) ∙ ap is_eq same) in
            let above : AllByRecursion (λ key. byte_cmp id key ≡ Less) (keys_of ps) = subst (λ k. AllByRecursion (λ key. byte_cmp k key ≡ Less) (keys_of ps)) (sym is) rises.0 in
            let behind : AllByRecursion (λ other. byte_cmp p.0 other ≡ Less) ids = subst (λ k. AllByRecursion (λ other. byte_cmp k other ≡ Less) ids) is rising.0 in
            ap (λ r. cons_option (option_map (λ value. (id, value)) (cond (is_eq r) (Some p.1) (value_of ps id))) (filter_map (having (p ∷ ps)) ids)) same
            ∙ (ap (λ l. (id, p.1) ∷ l) (first_passed p ps ids behind ∙ all_had ids ps rising.1 rises.1 (among_rest id ids (keys_of ps) above among.1))
            ∙ ap (λ k. (k, p.1) ∷ ps) is)
        | Greater ↦ λ over.
            let other : bytes_eq id p.0 ≡ false = sym (is_eq-slice_cmp id p.0) ∙ ap is_eq over in
            let less : byte_cmp id p.0 ≡ Less = of_each (λ key. byte_cmp id key ≡ Less) ids p.0 rising.0 (sym (ap (λ b. b || is_among ids p.0) other) ∙ among.0) in
            absurd (less_not_greater (sym less ∙ over))
      ] refl
    where
      less_not_greater : Less ≡ Greater → ⊥
      less_not_greater e = cc

-- ---- the names of a view

all_inserted : {V : Type 0} (P : List ℕ → Type 0) (ps : List (List ℕ × V)) (id : List ℕ) (v : V) → P id → AllByRecursion P (keys_of ps) → AllByRecursion P (keys_of (insert_entry byte_cmp ps id v))
all_inserted P [] id v here all = (here, tt)
all_inserted P (p ∷ ps) id v here all =
    elim (byte_cmp id p.0) as (λ r. AllByRecursion P (keys_of (match_ordering r ((id, v) ∷ p ∷ ps) ((p.0, v) ∷ ps) (p ∷ insert_entry byte_cmp ps id v)))) [
      | Less ↦ (here, all)
      | Equal ↦ all
      | Greater ↦ (all.0, all_inserted P ps id v here all.1)
    ]

module _ (basis : Basis) (log : List Change) (caller : Caller) (P : List ℕ → Type 0) where
  -- the names rise, and this is so of each
  abbrev IsSo : View → Type 0
  IsSo view = IsRising view × AllByRecursion P (keys_of view)

  so_with : (crash : Accepted) (raw : Option Crash) (view : View) → P crash.id → IsSo view → IsSo (view_with basis log caller crash raw view)
  so_with crash None view here so = so
  so_with crash (Some raw) view here so =
      elim (shows caller.products (product_of raw)) as (λ b. IsSo (if b then insert_entry byte_cmp view crash.id (seen_of caller raw (row_in basis log crash.id)) else view)) [
        | true ↦ (rising_inserted byte_cmp crash.id nat_list_cmp_total view _ so.0, all_inserted P view crash.id _ here so.1)
        | false ↦ so
      ]

  so_all : (crashes : List Accepted) → AllByRecursion (λ crash. P crash.id) crashes → IsSo (view_of_crashes basis log caller crashes)
  unfolding IsStrictlySortedBy
  so_all [] all = (tt, tt)
  so_all (crash ∷ crashes) all = so_with crash crash.raw (view_of_crashes basis log caller crashes) all.0 (so_all crashes all.1)

-- ---- held ids

filtered : (P : List ℕ → Type 0) (test : List ℕ → Bool) (ids : List (List ℕ)) → AllByRecursion P ids → AllByRecursion P (filter test ids)
filtered P test [] all = tt
filtered P test (id ∷ ids) all =
    elim (test id) as (λ b. AllByRecursion P (cond b (id ∷ filter test ids) (filter test ids))) [ true ↦ (all.0, filtered P test ids all.1) | false ↦ filtered P test ids all.1 ]

apart_filtered : (test : List ℕ → Bool) (ids : List (List ℕ)) → AreApart ids → AreApart (filter test ids)
apart_filtered test [] apart = tt
apart_filtered test (id ∷ ids) apart =
    elim (test id) as (λ b. AreApart (cond b (id ∷ filter test ids) (filter test ids))) [
      | true ↦ (filtered (λ other. bytes_eq other id ≡ false) test ids apart.0, apart_filtered test ids apart.1)
      | false ↦ apart_filtered test ids apart.1
    ]

among_filtered : (test : List ℕ → Bool) (ids : List (List ℕ)) (id : List ℕ) → is_among ids id ≡ true → test id ≡ true → is_among (filter test ids) id ≡ true
among_filtered test [] id among passes = among
among_filtered test (x ∷ ids) id among passes =
    elim (bytes_eq x id) as (λ e. bytes_eq x id ≡ e → (e || is_among ids id) ≡ true → is_among (cond (test x) (x ∷ filter test ids) (filter test ids)) id ≡ true) [
      | true ↦ λ same _.
          let passed : test x ≡ true = ap test ((bytes_eq-Decides x id).0 same) ∙ passes in
          ap (λ b. is_among (cond b (x ∷ filter test ids) (filter test ids)) id) passed ∙ ap (λ b. b || is_among (filter test ids) id) same
      | false ↦ λ other more.
          elim (test x) as (λ b. is_among (cond b (x ∷ filter test ids) (filter test ids)) id ≡ true) [
            | true ↦ ap (λ b. b || is_among (filter test ids) id) other ∙ among_filtered test ids id more passes
            | false ↦ among_filtered test ids id more passes
          ]
    ] refl among

accepted_are : (basis : Basis) (log : List Change) → accepted_ids (events basis log) ≡ map (λ crash. crash.id) (accepted_of log)
accepted_are basis [] = refl
accepted_are basis (keep (accept crash) ∷ log) = ap (λ ids. crash.id ∷ ids) (accepted_are basis log)
accepted_are basis (keep (ask id) ∷ log) = accepted_are basis log
accepted_are basis (keep (withdraw id) ∷ log) = accepted_are basis log
accepted_are basis (keep (report made) ∷ log) = accepted_are basis log
accepted_are basis (done id ∷ log) = accepted_are basis log
accepted_are basis (stop ∷ log) = accepted_are basis log

ids_apart : (crashes : List Accepted) → IsApart crashes → AreApart (map (λ crash. crash.id) crashes)
ids_apart [] apart = tt
ids_apart (crash ∷ crashes) apart = (each (λ id. bytes_eq id crash.id ≡ false) crashes apart.0, ids_apart crashes apart.1) where
  each : (P : List ℕ → Type 0) (others : List Accepted) → AllByRecursion (λ other. P other.id) others → AllByRecursion P (map (λ other. other.id) others)
  each P [] all = tt
  each P (other ∷ others) all = (all.0, each P others all.1)

held_apart : (basis : Basis) (log : List Change) → IsLegal (events basis log) → AreApart (held_ids (events basis log))
held_apart basis log legal =
    apart_filtered (λ id. not (was_withdrawn (events basis log) id)) (accepted_ids (events basis log))
    (subst AreApart (sym (accepted_are basis log)) (ids_apart (accepted_of log) (accepted_apart basis log legal)))

-- each held crash is among them
held_among : (basis : Basis) (log : List Change) (crashes : List Accepted)
    → AllByRecursion (λ crash. is_among (in_id_order (held_ids (events basis log))) crash.id ≡ true) (filter (λ crash. is_held (events basis log) crash.id) crashes)
held_among basis log [] = tt
held_among basis log (crash ∷ crashes) =
    let among : List Accepted → Type 0 = AllByRecursion (λ other. is_among (in_id_order (held_ids (events basis log))) other.id ≡ true) in
    let rest = filter (λ other. is_held (events basis log) other.id) crashes in
    elim (is_held (events basis log) crash.id) as (λ b. is_held (events basis log) crash.id ≡ b → among (cond b (crash ∷ rest) rest)) [
      | true ↦ λ is.
          let held = and_parts _ _ is in (
            order_among crash.id (held_ids (events basis log)) (among_filtered (λ id. not (was_withdrawn (events basis log) id)) (accepted_ids (events basis log)) crash.id held.0 held.1),
            held_among basis log crashes,
          )
      | false ↦ λ _. held_among basis log crashes
    ] refl

-- ---- lines

lines_had : (view : View) (ids : List (List ℕ)) → filter_map (line_in view) ids ≡ lines_of (filter_map (having view) ids)
lines_had view [] = refl
lines_had view (id ∷ ids) =
    elim (value_of view id) as (λ o. cons_option (option_map row_line (option_and_then (λ seen. seen.row) o)) (filter_map (line_in view) ids) ≡ lines_of (cons_option (option_map (λ seen. (id, seen)) o) (filter_map (having view) ids))) [
      | None ↦ lines_had view ids
      | Some seen ↦ with_row (filter_map (line_in view) ids) (filter_map (λ pair. pair.1.row) (filter_map (having view) ids)) seen.row (lines_had view ids)
    ]
  where
    with_row : (rest : List (List ℕ)) (rows : List (List Cell)) (row : Option (List Cell)) → rest ≡ map row_line rows → cons_option (option_map row_line row) rest ≡ map row_line (cons_option row rows)
    with_row rest rows None same = same
    with_row rest rows (Some row) same = ap (λ lines. row_line row ∷ lines) same

-- the lines of the held ids, in order, are those of the view
pub lines_are : (basis : Basis) (log : List Change) (caller : Caller) → IsLegal (events basis log)
    → filter_map (line_in (view_of basis log caller)) (in_id_order (held_ids (events basis log))) ≡ lines_of (view_of basis log caller)
lines_are basis log caller legal =
    let view = view_of basis log caller in
    let ids = in_id_order (held_ids (events basis log)) in
    let so = so_all basis log caller (λ id. is_among ids id ≡ true) (crashes_of basis log) (held_among basis log (accepted_of log)) in
    lines_had view ids ∙ ap lines_of (all_had ids view (order_rises (held_ids (events basis log)) (held_apart basis log legal)) so.0 so.1)

-- ---- lines one after another

none_taken : {A : Type 0} (xs : List A) → take 0 xs ≡ []
none_taken [] = refl
none_taken (x ∷ xs) = refl

module _ {X : Type 0} (f : X → Option (List ℕ)) where
  -- the lines of the first are the first of the lines
  front_lines : (n : ℕ) (xs : List X) → filter_map f (take n xs) ≡ take (length (filter_map f (take n xs))) (filter_map f xs)
  front_lines zero xs = ap (filter_map f) (none_taken xs) ∙ (sym (none_taken (filter_map f xs)) ∙ ap (λ l. take (length (filter_map f l)) (filter_map f xs)) (sym (none_taken xs)))
  front_lines (suc n) [] = refl
  front_lines (suc n) (x ∷ xs) =
      elim (f x) as (λ o. cons_option o (filter_map f (take n xs)) ≡ take (length (cons_option o (filter_map f (take n xs)))) (cons_option o (filter_map f xs))) [
        | None ↦ front_lines n xs
        | Some line ↦ ap (λ lines. line ∷ lines) (front_lines n xs)
      ]

  last_line : (o : Option (List ℕ)) → concat (cons_option o []) ≡ unwrap_or o []
  last_line None = refl
  last_line (Some line) = append-nil line

  -- one more
  next_line : (n : ℕ) (xs : List X) (x : X) → n < length xs → x ≡ get_or xs n x → concat (filter_map f (take (suc n) xs)) ≡ concat (filter_map f (take n xs)) ++ unwrap_or (f x) []
  next_line n xs x less is =
      ap (λ l. concat (filter_map f l)) (take-suc xs n x less ∙ ap (λ y. take n xs ++ y ∷ []) (sym is))
      ∙ (ap concat (filter_map-append f (take n xs) (x ∷ []))
      ∙ (concat-append (filter_map f (take n xs)) (filter_map f (x ∷ [])) ∙ ap (λ l. concat (filter_map f (take n xs)) ++ l) (last_line (f x))))

  -- and those behind
  lines_behind : (n : ℕ) (xs : List X) → concat (filter_map f xs) ≡ concat (filter_map f (take n xs)) ++ concat (filter_map f (drop n xs))
  lines_behind n xs =
      ap (λ l. concat (filter_map f l)) (sym (take-append-drop n xs))
      ∙ (ap concat (filter_map-append f (take n xs) (drop n xs)) ∙ concat-append (filter_map f (take n xs)) (filter_map f (drop n xs)))

  -- ---- what was written of them

  module _ (before : Told) (lines : List (List ℕ)) (xs : List X) (same : filter_map f xs ≡ lines) where
    pub lines_whole : (after : Told) (n : ℕ) → length xs ≤ n → Writes before after (concat (filter_map f (take n xs))) → Writes before after (concat lines)
    lines_whole after n all writes = subst (Writes before after) (ap (λ l. concat (filter_map f l)) (take_all n xs all) ∙ ap concat same) writes

    pub lines_some : (middle after : Told) (n : ℕ) → Writes before middle (concat (filter_map f (take n xs))) → after ≡ middle → WritesSome before after lines
    lines_some middle after n writes stays = record {
      count = length (filter_map f (take n xs));
      writes = subst (λ told. Writes before told (concat (take (length (filter_map f (take n xs))) lines))) (sym stays)
          (subst (λ l. Writes before middle (concat l)) (front_lines n xs ∙ ap (take (length (filter_map f (take n xs)))) same) writes);
    }

    pub lines_cut : (middle after : Told) (n : ℕ) (x : X) → n < length xs → x ≡ get_or xs n x → Writes before middle (concat (filter_map f (take n xs)))
        → WritesFront middle after (unwrap_or (f x) []) → WritesFront before after (concat lines)
    lines_cut middle after n x less is writes front =
        subst (WritesFront before after)
        (ap (λ l. l ++ concat (filter_map f (drop (suc n) xs))) (sym (next_line n xs x less is)) ∙ (sym (lines_behind (suc n) xs) ∙ ap concat same))
        (WritesFront-longer before after _ (concat (filter_map f (drop (suc n) xs))) (WritesFront-behind before middle after _ _ writes front))

  pub lines_more : (before middle after : Told) (xs : List X) (n : ℕ) (x : X) → n < length xs → x ≡ get_or xs n x → Writes before middle (concat (filter_map f (take n xs)))
      → Writes middle after (unwrap_or (f x) []) → Writes before after (concat (filter_map f (take (n + 1) xs)))
  lines_more before middle after xs n x less is writes next =
      subst (Writes before after) (sym (next_line n xs x less is) ∙ ap (λ (m : ℕ). concat (filter_map f (take m xs))) (sym (add-one n))) (Writes-append before middle after _ _ writes next)

  pub lines_none : (told : Told) (xs : List X) → Writes told told (concat (filter_map f (take 0 xs)))
  lines_none told xs = subst (Writes told told) (ap (λ l. concat (filter_map f l)) (sym (none_taken xs))) (Writes-none told)

pub writes_none : (told : Told) (lines : List (List ℕ)) → WritesSome told told lines
writes_none told lines = record { count = 0; writes = subst (Writes told told) (ap concat (sym (none_taken lines))) (Writes-none told) }
