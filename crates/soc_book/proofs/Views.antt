-- What a caller's view has of a crash, by what the log tells of it.
use Rattle.std.proofs.Common.{◌≡◌, ℕ, Bool, true, false, List, [], ◌∷◌, Option, Some, None, IfSome, cond, sym, ap, ◌∙◌, refl}
use Rattle.soc_book.proofs.Words.{bytes_eq, filter_map, AllByRecursion, cons_option, find, option_map, option_and_then, bytes_eq-Decides, value_of, Crash, Caller, Cell, is_held, AreLegal, Basis, Change, Accepted, accepted_of, events, raw_of, row_in, Seen, seen_of, view_of, has_id, IsApart, accepted_apart, turned_eq, value_of-with_value, shown, item, item_of, item_id, items_absent, view_of_items, view_items, all-filter_map}

-- what a caller sees of a crash: nothing where it isn't held, or where its product isn't shown
abbrev pub sight : Caller → Bool → Option Crash → Option (List Cell) → Option Seen
sight caller false raw row = None
sight caller true raw row = option_map (λ crash. seen_of caller crash row) (shown caller raw)

abbrev pub sight_of : Basis → List Change → Caller → List ℕ → Option Seen
sight_of basis log caller id = sight caller (is_held (events basis log) id) (raw_of log id) (row_in basis log id)

-- an item of another id is passed over
passed : (o : Option (List ℕ × Seen)) (ps : List (List ℕ × Seen)) (id : List ℕ) → IfSome o (λ p. bytes_eq p.0 id ≡ false) → value_of (view_of_items (cons_option o ps)) id ≡ value_of (view_of_items ps) id
passed None ps id other = refl
passed (Some p) ps id other =
    value_of-with_value (view_of_items ps) p.0 p.1 id ∙ ap (λ b. cond b (Some p.1) (value_of (view_of_items ps) id)) (turned_eq p.0 id false other)

-- a crash's own item, where no later one has its id
own_item : (caller : Caller) (held : Bool) (id : List ℕ) (raw : Option Crash) (row : Option (List Cell)) (ps : List (List ℕ × Seen)) → value_of (view_of_items ps) id ≡ None
    → value_of (view_of_items (cons_option (item caller held id raw row) ps)) id ≡ sight caller held raw row
own_item caller false id raw row ps none = none
own_item caller true id raw row ps none =
    elim (shown caller raw) as (λ o. value_of (view_of_items (cons_option (option_map (λ crash. (id, seen_of caller crash row)) o) ps)) id ≡ option_map (λ crash. seen_of caller crash row) o) [
      | None ↦ none
      | Some crash ↦ value_of-with_value (view_of_items ps) id (seen_of caller crash row) id
          ∙ ap (λ b. cond b (Some (seen_of caller crash row)) (value_of (view_of_items ps) id)) ((bytes_eq-Decides id id).1 refl)
    ]

no_sight : (caller : Caller) (held : Bool) (row : Option (List Cell)) → sight caller held None row ≡ None
no_sight caller true row = refl
no_sight caller false row = refl

module _ (basis : Basis) (log : List Change) (caller : Caller) (id : List ℕ) where
  abbrev IsOther : Accepted → Type 0
  IsOther crash = IfSome (item_of basis log caller crash) (λ p. bytes_eq p.0 id ≡ false)

  other_item : (crash : Accepted) → bytes_eq crash.id id ≡ false → IsOther crash
  other_item crash other = item_id caller (is_held (events basis log) crash.id) crash.id crash.raw (row_in basis log crash.id) (λ x. bytes_eq x id ≡ false) other

  other_items : (own : List ℕ) (crashes : List Accepted) → own ≡ id → AllByRecursion (λ other. bytes_eq other.id own ≡ false) crashes → AllByRecursion IsOther crashes
  other_items own [] same apart = tt
  other_items own (crash ∷ crashes) same apart = (other_item crash (ap (λ x. bytes_eq crash.id x) (sym same) ∙ apart.0), other_items own crashes same apart.1)

  found : (crashes : List Accepted) → IsApart crashes
      → value_of (view_of_items (filter_map (item_of basis log caller) crashes)) id
      ≡ sight caller (is_held (events basis log) id) (option_and_then (λ crash. crash.raw) (find (has_id id) crashes)) (row_in basis log id)
  found [] apart = sym (no_sight caller (is_held (events basis log) id) (row_in basis log id))
  found (crash ∷ crashes) apart =
      let later = filter_map (item_of basis log caller) crashes in
      elim (bytes_eq crash.id id) as (λ b. bytes_eq crash.id id ≡ b
      → value_of (view_of_items (cons_option (item_of basis log caller crash) later)) id
      ≡ sight caller (is_held (events basis log) id) (option_and_then (λ c. c.raw) (cond b (Some crash) (find (has_id id) crashes))) (row_in basis log id)) [
        | true ↦ λ is.
            let same : crash.id ≡ id = (bytes_eq-Decides crash.id id).0 is in
            let none : value_of (view_of_items later) id ≡ None =
            items_absent later id (all-filter_map (item_of basis log caller) (λ p. bytes_eq p.0 id ≡ false) crashes (other_items crash.id crashes same apart.0)) in
            ap (λ x. value_of (view_of_items (cons_option (item caller (is_held (events basis log) x) x crash.raw (row_in basis log x)) later)) id) same
            ∙ own_item caller (is_held (events basis log) id) id crash.raw (row_in basis log id) later none
        | false ↦ λ other. passed (item_of basis log caller crash) later id (other_item crash other) ∙ found crashes apart.1
      ] refl

  -- a view has of an id what the caller sees of its crash
  pub seen_is : AreLegal (events basis log) → value_of (view_of basis log caller) id ≡ sight_of basis log caller id
  seen_is legal =
      ap (λ v. value_of v id) (view_items basis log caller) ∙ found (accepted_of log) (accepted_apart basis log legal)
