-- A view as what is seen of the accepted crashes, one by one.
use Rattle.std.proofs.Common.{◌≡◌, ℕ, Bool, true, false, List, [], ◌∷◌, Option, Some, None, IfSome, cond, sym, ap, ◌∙◌, refl}
use Rattle.std.specs.Prelude.{bytes_eq, filter, filter_map, if◌then◌else◌}
use Rattle.std.specs.List.{AllByRecursion, cons_option}
use Rattle.std.specs.Option.{option_map}
use Rattle.std.specs.Ordering.{nat_cmp, match_ordering, is_eq}
use Rattle.std.specs.Cmp.Lexicographic.{slice_cmp}
use Rattle.std.specs.Map.{lookup}
use Rattle.std.specs.BTreeMap.{insert_entry, is_at}
use Rattle.std.specs.declared.cmp.Ordering.{Ordering}
use Rattle.std.specs.declared.cmp.Ordering.TheVariants.{Less, Equal, Greater}
use Rattle.std.proofs.lemmas.Map.Text.{is_eq-slice_cmp}
use Rattle.std.proofs.lemmas.Slice.Eq.{bytes_eq-Decides}
use Rattle.soc_base.specs.Names.{value_of, with_value}
use Rattle.soc_raw.specs.Record.{Crash}
use Rattle.soc_schema.specs.declared.caller.Caller.{Caller}
use Rattle.soc_schema.specs.declared.value.Cell.{Cell}
use Rattle.soc_schema.specs.Permits.{shows}
use Rattle.soc_schema.specs.Reports.{product_of}
use Rattle.soc_ledger.specs.Events.{is_held}
use Rattle.soc_desk.specs.Basis.{Basis}
use Rattle.soc_desk.specs.Log.{Change, Accepted, accepted_of, events, row_in}
use Rattle.soc_desk.specs.View.{Seen, View, view_with, view_of_crashes, view_of, seen_of}

-- two texts that compare as different aren't equal
not_equal : (x y : List ℕ) (b : Bool) (r : Ordering) → slice_cmp nat_cmp x y ≡ r → is_eq r ≡ b → bytes_eq x y ≡ b
not_equal x y b r is result = sym (is_eq-slice_cmp x y) ∙ (ap is_eq is ∙ result)

-- the other way round
pub turned_eq : (x y : List ℕ) (b : Bool) → bytes_eq x y ≡ b → bytes_eq y x ≡ b
turned_eq x y true is = (bytes_eq-Decides y x).1 (sym ((bytes_eq-Decides x y).0 is))
turned_eq x y false is =
    elim (bytes_eq y x) as (λ r. bytes_eq y x ≡ r → r ≡ false) [
      | true ↦ λ same. sym ((bytes_eq-Decides x y).1 (sym ((bytes_eq-Decides y x).0 same))) ∙ is
      | false ↦ λ same. refl
    ] refl

-- what a map has of a name after one more value
pub value_of-with_value : {V : Type 0} (ps : List (List ℕ × V)) (name : List ℕ) (value : V) (q : List ℕ)
    → value_of (with_value ps name value) q ≡ cond (bytes_eq q name) (Some value) (value_of ps q)
value_of-with_value [] name value q = ap (λ b. cond b (Some value) None) (is_eq-slice_cmp q name)
value_of-with_value {V = V} (p ∷ ps) name value q =
    let here : is_eq (slice_cmp nat_cmp q p.0) ≡ bytes_eq q p.0 = is_eq-slice_cmp q p.0 in
    elim (slice_cmp nat_cmp name p.0) as (λ r. slice_cmp nat_cmp name p.0 ≡ r
    → lookup (is_at (slice_cmp nat_cmp q)) (match_ordering r ((name, value) ∷ p ∷ ps) ((p.0, value) ∷ ps) (p ∷ insert_entry (slice_cmp nat_cmp) ps name value))
    ≡ cond (bytes_eq q name) (Some value) (value_of (p ∷ ps) q)) [
      | Less ↦ λ is. ap (λ b. cond b (Some value) (value_of (p ∷ ps) q)) (is_eq-slice_cmp q name)
      | Equal ↦ λ is.
          let same : name ≡ p.0 = (bytes_eq-Decides name p.0).0 (not_equal name p.0 true Equal is refl) in
          ap (λ b. cond b (Some value) (value_of ps q)) here
          ∙ (elim (bytes_eq q p.0) as (λ b. is_eq (slice_cmp nat_cmp q p.0) ≡ b → cond b (Some value) (value_of ps q) ≡ cond b (Some value) (value_of (p ∷ ps) q)) [
            | true ↦ λ h. refl
            | false ↦ λ h. sym (ap (λ b. cond b (Some p.1) (value_of ps q)) h)
          ] here
          ∙ ap (λ n. cond (bytes_eq q n) (Some value) (value_of (p ∷ ps) q)) (sym same))
      | Greater ↦ λ is.
          ap (λ t. cond (is_eq (slice_cmp nat_cmp q p.0)) (Some p.1) t) (value_of-with_value ps name value q)
          ∙ elim (bytes_eq q name) as (λ b. bytes_eq q name ≡ b
          → cond (is_eq (slice_cmp nat_cmp q p.0)) (Some p.1) (cond b (Some value) (value_of ps q)) ≡ cond b (Some value) (value_of (p ∷ ps) q)) [
            | true ↦ λ h.
                let same : q ≡ name = (bytes_eq-Decides q name).0 h in
                ap (λ o. cond (is_eq o) (Some p.1) (Some value)) (ap (λ u. slice_cmp nat_cmp u p.0) same ∙ is)
            | false ↦ λ h. refl
          ] refl
    ] refl

-- ---- items

-- the raw crash, where its product is shown to the caller
abbrev pub shown : Caller → Option Crash → Option Crash
shown caller None = None
shown caller (Some raw) = if shows caller.products (product_of raw) then Some raw else None

-- what a caller sees of a raw crash with a row, under its id
abbrev pub seen_under : Caller → List ℕ → Option (List Cell) → Crash → List ℕ × Seen
seen_under caller id row crash = (id, seen_of caller crash row)

-- what a caller sees of a crash of this id, where it is held, with a row
abbrev pub item : Caller → Bool → List ℕ → Option Crash → Option (List Cell) → Option (List ℕ × Seen)
item caller false id raw row = None
item caller true id raw row = option_map (seen_under caller id row) (shown caller raw)

abbrev pub item_of : Basis → List Change → Caller → Accepted → Option (List ℕ × Seen)
item_of basis log caller crash = item caller (is_held (events basis log) crash.id) crash.id crash.raw (row_in basis log crash.id)

abbrev pub items_of : Basis → List Change → Caller → List (List ℕ × Seen)
items_of basis log caller = filter_map (item_of basis log caller) (accepted_of log)

abbrev pub view_of_items : List (List ℕ × Seen) → View
view_of_items [] = []
view_of_items (p ∷ ps) = with_value (view_of_items ps) p.0 p.1

-- one more crash of a view is one more item
with_item : (basis : Basis) (log : List Change) (caller : Caller) (crash : Accepted) (raw : Option Crash) (view : View) (items : List (List ℕ × Seen)) → view ≡ view_of_items items
    → view_with basis log caller crash raw view ≡ view_of_items (cons_option (item caller true crash.id raw (row_in basis log crash.id)) items)
with_item basis log caller crash None view items is = is
with_item basis log caller crash (Some raw) view items is =
    elim (shows caller.products (product_of raw)) as (λ b. (if b then with_value view crash.id (seen_of caller raw (row_in basis log crash.id)) else view)
    ≡ view_of_items (cons_option (option_map (seen_under caller crash.id (row_in basis log crash.id)) (if b then Some raw else None)) items)) [
      | true ↦ ap (λ v. with_value v crash.id (seen_of caller raw (row_in basis log crash.id))) is
      | false ↦ is
    ]

module _ (basis : Basis) (log : List Change) (caller : Caller) where
  view_of_held : (crashes : List Accepted)
      → view_of_crashes basis log caller (filter (λ crash. is_held (events basis log) crash.id) crashes) ≡ view_of_items (filter_map (item_of basis log caller) crashes)
  view_of_held [] = refl
  view_of_held (crash ∷ crashes) =
      let rest = view_of_held crashes in
      elim (is_held (events basis log) crash.id) as (λ b. view_of_crashes basis log caller (cond b (crash ∷ filter (λ c. is_held (events basis log) c.id) crashes) (filter (λ c. is_held (events basis log) c.id) crashes))
      ≡ view_of_items (cons_option (item caller b crash.id crash.raw (row_in basis log crash.id)) (filter_map (item_of basis log caller) crashes))) [
        | true ↦ with_item basis log caller crash crash.raw _ (filter_map (item_of basis log caller) crashes) rest
        | false ↦ rest
      ]

  -- a view is that of its items
  pub view_items : view_of basis log caller ≡ view_of_items (items_of basis log caller)
  view_items = view_of_held (accepted_of log)

-- ---- lists of what a function gives

module _ {X Y : Type 0} (f : X → Option Y) where
  all_consed : (P : Y → Type 0) (o : Option Y) (ys : List Y) → AllByRecursion P (cons_option o ys) → IfSome o P × AllByRecursion P ys
  all_consed P None ys all = (tt, all)
  all_consed P (Some y) ys all = all

  consed_all : (P : Y → Type 0) (o : Option Y) (ys : List Y) → IfSome o P → AllByRecursion P ys → AllByRecursion P (cons_option o ys)
  consed_all P None ys here all = all
  consed_all P (Some y) ys here all = (here, all)

  pub filter_map-all : (P : Y → Type 0) (xs : List X) → AllByRecursion P (filter_map f xs) → AllByRecursion (λ x. IfSome (f x) P) xs
  filter_map-all P [] all = tt
  filter_map-all P (x ∷ xs) all =
      let both = all_consed P (f x) (filter_map f xs) all in
      (both.0, filter_map-all P xs both.1)

  pub all-filter_map : (P : Y → Type 0) (xs : List X) → AllByRecursion (λ x. IfSome (f x) P) xs → AllByRecursion P (filter_map f xs)
  all-filter_map P [] all = tt
  all-filter_map P (x ∷ xs) all = consed_all P (f x) (filter_map f xs) all.0 (all-filter_map P xs all.1)

  pub filter_map-same : (g : X → Option Y) (xs : List X) → AllByRecursion (λ x. f x ≡ g x) xs → filter_map f xs ≡ filter_map g xs
  filter_map-same g [] all = refl
  filter_map-same g (x ∷ xs) all = ap (λ o. cons_option o (filter_map f xs)) all.0 ∙ ap (λ ys. cons_option (g x) ys) (filter_map-same g xs all.1)

pub all_weaker : {X : Type 0} (P Q : X → Type 0) (xs : List X) → ((x : X) → P x → Q x) → AllByRecursion P xs → AllByRecursion Q xs
all_weaker P Q [] weaker all = tt
all_weaker P Q (x ∷ xs) weaker all = (weaker x all.0, all_weaker P Q xs weaker all.1)

pub all_both : {X : Type 0} (P Q : X → Type 0) (xs : List X) → AllByRecursion P xs → AllByRecursion Q xs → AllByRecursion (λ x. P x × Q x) xs
all_both P Q [] p q = tt
all_both P Q (x ∷ xs) p q = ((p.0, q.0), all_both P Q xs p.1 q.1)

-- ---- what is in a view

none_is_not_some : {A : Type 0} {x : A} → Some x ≡ None → ⊥
none_is_not_some is = cc

pub true_is_not_false : true ≡ false → ⊥
true_is_not_false is = cc

pub items_absent : (ps : List (List ℕ × Seen)) (id : List ℕ) → AllByRecursion (λ p. bytes_eq p.0 id ≡ false) ps → value_of (view_of_items ps) id ≡ None
items_absent [] id all = refl
items_absent (p ∷ ps) id all =
    value_of-with_value (view_of_items ps) p.0 p.1 id
    ∙ (ap (λ b. cond b (Some p.1) (value_of (view_of_items ps) id)) (turned_eq p.0 id false all.0)
    ∙ items_absent ps id all.1)

pub absent_items : (ps : List (List ℕ × Seen)) (id : List ℕ) → value_of (view_of_items ps) id ≡ None → AllByRecursion (λ p. bytes_eq p.0 id ≡ false) ps
absent_items [] id none = tt
absent_items (p ∷ ps) id none =
    elim (bytes_eq id p.0) as (λ b. bytes_eq id p.0 ≡ b → cond b (Some p.1) (value_of (view_of_items ps) id) ≡ None → AllByRecursion (λ q. bytes_eq q.0 id ≡ false) (p ∷ ps)) [
      | true ↦ λ is found. absurd (none_is_not_some found)
      | false ↦ λ is rest. (turned_eq id p.0 false is, absent_items ps id rest)
    ] refl (sym (value_of-with_value (view_of_items ps) p.0 p.1 id) ∙ none)

-- what is seen of a crash stands under its id
pub item_id : (caller : Caller) (held : Bool) (id : List ℕ) (raw : Option Crash) (row : Option (List Cell)) (P : List ℕ → Type 0) → P id → IfSome (item caller held id raw row) (λ p. P p.0)
item_id caller false id raw row P here = tt
item_id caller true id raw row P here =
    let Q : List ℕ × Seen → Type 0 = λ p. P p.0 in
    elim (shown caller raw) as (λ o. IfSome (option_map (seen_under caller id row) o) Q) [
      | None ↦ tt
      | Some crash ↦ here
    ]

-- nothing is seen of a crash that isn't shown
pub item_hidden : (caller : Caller) (held : Bool) (id : List ℕ) (raw : Option Crash) (row : Option (List Cell)) → shown caller raw ≡ None → item caller held id raw row ≡ None
item_hidden caller false id raw row hidden = refl
item_hidden caller true id raw row hidden = ap (λ o. option_map (seen_under caller id row) o) hidden

-- whatever row it has
pub item_row : (caller : Caller) (held : Bool) (id : List ℕ) (raw : Option Crash) (row row' : Option (List Cell)) → item caller held id raw row ≡ None → item caller held id raw row' ≡ None
item_row caller false id raw row row' none = refl
item_row caller true id raw row row' none =
    elim (shown caller raw) as (λ o. option_map (seen_under caller id row) o ≡ None → option_map (seen_under caller id row') o ≡ None) [
      | None ↦ λ h. refl
      | Some crash ↦ λ h. absurd (none_is_not_some h)
    ] none

-- a crash whose item has another id than its own has none
pub item_other : (caller : Caller) (held : Bool) (id : List ℕ) (raw : Option Crash) (row : Option (List Cell)) (q : List ℕ) → bytes_eq id q ≡ true
    → IfSome (item caller held id raw row) (λ p. bytes_eq p.0 q ≡ false) → item caller held id raw row ≡ None
item_other caller false id raw row q same other = refl
item_other caller true id raw row q same other =
    elim (shown caller raw) as (λ o. IfSome (option_map (seen_under caller id row) o) (λ p. bytes_eq p.0 q ≡ false) → option_map (seen_under caller id row) o ≡ None) [
      | None ↦ λ h. refl
      | Some crash ↦ λ h. absurd (true_is_not_false (sym same ∙ h))
    ] other
