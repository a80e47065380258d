-- Which accepted crash has an id, and what is told and reported of it on legal logs.
use Rattle.std.proofs.Common.{◌≡◌, ℕ, Bool, true, false, not, ◌&&◌, ◌||◌, IsTrue, List, [], ◌∷◌, ◌++◌, map, reverse, Option, Some, None, IfSome, IsSome, cond, sym, ap, subst, ◌∙◌, refl}
use Rattle.std.specs.Prelude.{bytes_eq, filter_map, is_some, if◌then◌else◌}
use Rattle.std.specs.List.{AllByRecursion, find, list_any}
use Rattle.std.specs.Option.{option_map, option_and_then}
use Rattle.std.proofs.lemmas.List.Elements.{filter_map-append}
use Rattle.std.proofs.lemmas.Slice.Eq.{bytes_eq-Decides}
use Rattle.soc_base.specs.Names.{value_of}
use Rattle.soc_raw.specs.Record.{Crash}
use Rattle.soc_schema.specs.declared.caller.Caller.{Caller}
use Rattle.soc_schema.specs.declared.value.Cell.{Cell}
use Rattle.soc_schema.specs.declared.caller.Products.{Products}
use Rattle.soc_schema.specs.declared.caller.Products.TheVariants.{All, Some as Only}
use Rattle.soc_schema.specs.Permits.{granted_cells, shows}
use Rattle.soc_schema.specs.Reports.{product_of}
use Rattle.soc_ledger.specs.declared.event.Event.{Event}
use Rattle.soc_ledger.specs.Due.{due_since_back, is_due, is_due_at_once}
use Rattle.soc_ledger.specs.Events.{is_held, was_accepted, was_withdrawn}
use Rattle.soc_ledger.specs.Legal.{IsLegalBack, IsLegal as AreLegal}
use Rattle.soc_ledger.specs.Reported.{has_report, reported_back}
use Rattle.soc_desk.specs.Basis.{Basis}
use Rattle.soc_desk.specs.Grows.{IsGone, sees_all}
use Rattle.soc_desk.specs.Laws.{was_asked, processed_since}
use Rattle.soc_desk.specs.Log.{Change, Accepted, accept, ask, withdraw, report, keep, done, stop, accepted_in, accepted_of, event_of, events, is_own, raw_of, row_back, row_in}
use Rattle.soc_desk.specs.View.{Seen, view_of, is_in}
use Rattle.soc_desk.proofs.Dues.{due_by_history}
use Rattle.soc_desk.proofs.Logs.{has_id, was_accepted-is, events_back, reverse-cons, reverse-map, reverse-twice}
use Rattle.soc_desk.proofs.Unseen.{every, hides_unheld, is_lacking}
use Rattle.soc_desk.proofs.Views.{true_is_not_false, all-filter_map, item, item_of, items_of, seen_under, shown, value_of-with_value, view_items, view_of_items}

-- ---- the raw crash of an id

abbrev pub AreTold : List Accepted → Type 0
AreTold crashes = AllByRecursion (λ crash. IsSome crash.raw) crashes

found_any : (id : List ℕ) (crashes : List Accepted) (raw : Crash) → option_and_then (λ crash. crash.raw) (find (has_id id) crashes) ≡ Some raw → list_any (has_id id) crashes ≡ true
found_any id [] raw is = cc
found_any id (crash ∷ crashes) raw is =
    elim (bytes_eq crash.id id) as (λ b. option_and_then (λ c. c.raw) (cond b (Some crash) (find (has_id id) crashes)) ≡ Some raw → (b || list_any (has_id id) crashes) ≡ true) [
      | true ↦ λ here. refl
      | false ↦ λ later. found_any id crashes raw later
    ] is

none_told : (o : Option Crash) → IsSome o → o ≡ None → ⊥
none_told None some is = absurd (true_is_not_false (sym some))
none_told (Some raw) some is = cc

-- where each crash is told, an id without a raw crash wasn't accepted
lost_any : (id : List ℕ) (crashes : List Accepted) → AreTold crashes → option_and_then (λ crash. crash.raw) (find (has_id id) crashes) ≡ None → list_any (has_id id) crashes ≡ false
lost_any id [] told is = refl
lost_any id (crash ∷ crashes) told is =
    elim (bytes_eq crash.id id) as (λ b. option_and_then (λ c. c.raw) (cond b (Some crash) (find (has_id id) crashes)) ≡ None → (b || list_any (has_id id) crashes) ≡ false) [
      | true ↦ λ here. absurd (none_told crash.raw told.0 here)
      | false ↦ λ later. lost_any id crashes told.1 later
    ] is

module _ (basis : Basis) (log : List Change) (id : List ℕ) where
  pub found_accepted : (raw : Crash) → raw_of log id ≡ Some raw → was_accepted (events basis log) id ≡ true
  found_accepted raw is = was_accepted-is basis log id ∙ found_any id (accepted_of log) raw is

  pub lost_new : AreTold (accepted_of log) → raw_of log id ≡ None → was_accepted (events basis log) id ≡ false
  lost_new told is = was_accepted-is basis log id ∙ lost_any id (accepted_of log) told is

  -- a crash that was accepted and is told has its raw crash
  pub accepted_found : AreTold (accepted_of log) → was_accepted (events basis log) id ≡ true → is_some (raw_of log id) ≡ true
  accepted_found told was =
      elim (raw_of log id) as (λ o. raw_of log id ≡ o → is_some o ≡ true) [
        | None ↦ λ is. absurd (true_is_not_false (sym was ∙ lost_new told is))
        | Some raw ↦ λ is. refl
      ] refl

  -- what a view has is held
  pub seen_held : (caller : Caller) → IsTrue (is_in (view_of basis log caller) id) → is_held (events basis log) id ≡ true
  seen_held caller seen =
      elim (is_held (events basis log) id) as (λ b. is_held (events basis log) id ≡ b → b ≡ true) [
        | true ↦ λ is. refl
        | false ↦ λ is. absurd (true_is_not_false (sym seen ∙ ap is_some (hides_unheld basis log caller id is)))
      ] refl

-- ---- callers that see every product

pub shows_all : (products : Products) (product : Option (List ℕ)) → sees_all products ≡ true → shows products product ≡ true
shows_all All product all = refl
shows_all (Only names) product all = absurd (true_is_not_false (sym all))

module _ (basis : Basis) (log : List Change) (caller : Caller) (id : List ℕ) (all : sees_all caller.products ≡ true) (held : is_held (events basis log) id ≡ true) where
  -- what such a caller sees of a held crash
  item_there : (own : List ℕ) (raw : Option Crash) (row : Option (List Cell)) (b : Bool) → b ≡ true → bytes_eq own id ≡ true → IsSome raw → IfSome (item caller b own raw row) (λ p. bytes_eq p.0 id ≡ false) → ⊥
  item_there own None row b is same some lacks = true_is_not_false (sym some)
  item_there own (Some raw) row false is same some lacks = true_is_not_false (sym is)
  item_there own (Some raw) row true is same some lacks =
      let P : Bool → Type 0 = λ s. IfSome (option_map (seen_under caller own row) (if s then Some raw else None)) (λ p. bytes_eq p.0 id ≡ false) in
      true_is_not_false (sym same ∙ subst P (shows_all caller.products (product_of raw) all) lacks)

  lacked_by_all : (crashes : List Accepted) → AreTold crashes → AllByRecursion (λ crash. IfSome (item_of basis log caller crash) (λ p. bytes_eq p.0 id ≡ false)) crashes
      → list_any (has_id id) crashes ≡ false
  lacked_by_all [] told lacks = refl
  lacked_by_all (crash ∷ crashes) told lacks =
      elim (bytes_eq crash.id id) as (λ b. bytes_eq crash.id id ≡ b → (b || list_any (has_id id) crashes) ≡ false) [
        | true ↦ λ same.
            let here : is_held (events basis log) crash.id ≡ true = ap (λ x. is_held (events basis log) x) ((bytes_eq-Decides crash.id id).0 same) ∙ held in
            absurd (item_there crash.id crash.raw (row_in basis log crash.id) (is_held (events basis log) crash.id) here same told.0 lacks.0)
        | false ↦ λ other. lacked_by_all crashes told.1 lacks.1
      ] refl

-- what isn't in the view of such a caller isn't held
pub absent_gone : (basis : Basis) (log : List Change) (caller : Caller) (id : List ℕ) → AreTold (accepted_of log) → value_of (view_of basis log caller) id ≡ None → IsGone caller id (events basis log)
absent_gone basis log caller id told none = λ all.
    elim (is_held (events basis log) id) as (λ b. is_held (events basis log) id ≡ b → not b ≡ true) [
      | false ↦ λ gone. refl
      | true ↦ λ held.
          let new : was_accepted (events basis log) id ≡ false =
          was_accepted-is basis log id ∙ lacked_by_all basis log caller id all held (accepted_of log) told (is_lacking basis log caller id none) in
          absurd (true_is_not_false (sym held ∙ ap (λ a. a && not (was_withdrawn (events basis log) id)) new))
    ] refl

pub unseen_gone : (basis : Basis) (log : List Change) (caller : Caller) (id : List ℕ) → AreTold (accepted_of log) → is_in (view_of basis log caller) id ≡ false → IsGone caller id (events basis log)
unseen_gone basis log caller id told unseen = absent_gone basis log caller id told (none_in (value_of (view_of basis log caller) id) unseen) where
  none_in : (o : Option Seen) → is_some o ≡ false → o ≡ None
  none_in None is = refl
  none_in (Some seen) is = absurd (true_is_not_false is)

-- ---- the row of a report

told_front : (xs ys : List Accepted) → AreTold (xs ++ ys) → AreTold xs
told_front [] ys all = tt
told_front (x ∷ xs) ys all = (all.0, told_front xs ys all.1)

held_of_due : (a w x : Bool) → (a && not w) ≡ x → (y : Bool) → (x && y) ≡ true → a ≡ true
held_of_due true w x is y due = refl
held_of_due false w x is y due = absurd (true_is_not_false (sym due ∙ ap (λ t. t && y) (sym is)))

-- a due crash was accepted
pub due_accepted : (log : List Event) (id : List ℕ) → AreLegal log → is_due log id ≡ true → was_accepted log id ≡ true
due_accepted log id legal due =
    held_of_due (was_accepted log id) (was_withdrawn log id) (is_held log id) refl ((is_due_at_once id || was_asked log id) && not (processed_since id (reverse log)))
    (sym (due_by_history log id legal) ∙ due)

module _ (basis : Basis) (id : List ℕ) where
  -- the test of a report that counts, in either order
  counts : (b own due earlier : Bool) (made : List Cell) (row : Option (List Cell)) → earlier ≡ is_some row
      → ((b && own && due) || earlier) ≡ is_some (if b && (own && due) then Some made else row)
  counts true true true earlier made row same = refl
  counts true true false earlier made row same = same
  counts true false due earlier made row same = same
  counts false own due earlier made row same = same

  processed : (b earlier : Bool) (raw row : Option (List Cell)) → earlier ≡ is_some row → (b ≡ true → is_some raw ≡ true) → (b || earlier) ≡ is_some (if b then raw else row)
  processed true earlier raw row same told = sym (told refl)
  processed false earlier raw row same told = same

  mapped_some : (o : Option Crash) → is_some o ≡ true → is_some (option_map basis.row_of o) ≡ true
  mapped_some None some = some
  mapped_some (Some crash) some = refl

  legal_older : (older : List Change) → IsLegalBack (map (event_of basis) older) → AreLegal (events basis (reverse older))
  legal_older older legal = subst IsLegalBack (sym (events_back basis older)) legal

  told_older : (change : Change) (older : List Change) → AreTold (accepted_of (reverse (change ∷ older))) → AreTold (accepted_of (reverse older))
  told_older change older told =
      told_front (accepted_of (reverse older)) (filter_map accepted_in (change ∷ []))
      (subst AreTold (ap accepted_of (reverse-cons change older) ∙ filter_map-append accepted_in (reverse older) (change ∷ [])) told)

  -- a crash has a report exactly where it has a row
  reported_rows : (back : List Change) → IsLegalBack (map (event_of basis) back) → AreTold (accepted_of (reverse back))
      → reported_back id (map (event_of basis) back) ≡ is_some (row_back basis id back)
  reported_rows [] legal told = refl
  reported_rows (keep (accept crash) ∷ older) legal told = reported_rows older legal.1 (told_older (keep (accept crash)) older told)
  reported_rows (keep (ask other) ∷ older) legal told = reported_rows older legal.1 (told_older (keep (ask other)) older told)
  reported_rows (keep (withdraw other) ∷ older) legal told = reported_rows older legal.1 (told_older (keep (withdraw other)) older told)
  reported_rows (stop ∷ older) legal told = reported_rows older legal.1 (told_older stop older told)
  reported_rows (keep (report made) ∷ older) legal told =
      let rest = reported_rows older legal.1 (told_older (keep (report made)) older told) in
      let due : is_due (events basis (reverse older)) id ≡ is_some (due_since_back id (map (event_of basis) older)) = ap (λ l. is_some (due_since_back id l)) (events_back basis older) in
      counts (bytes_eq made.id id) (is_own basis made.digest) (is_some (due_since_back id (map (event_of basis) older))) (reported_back id (map (event_of basis) older)) made.row (row_back basis id older) rest
      ∙ ap (λ d. is_some (if bytes_eq made.id id && (is_own basis made.digest && d) then Some made.row else row_back basis id older)) (sym due)
  reported_rows (done other ∷ older) legal told =
      let before = told_older (done other) older told in
      let rest = reported_rows older legal.1 before in
      processed (bytes_eq other id) (reported_back id (map (event_of basis) older)) (option_map basis.row_of (raw_of (reverse older) id)) (row_back basis id older) rest
      (λ same.
      let was_due : is_due (events basis (reverse older)) other ≡ true = subst (λ l. is_due l other ≡ true) (reverse-map (event_of basis) older) legal.0 in
      let was : was_accepted (events basis (reverse older)) id ≡ true =
      subst (λ x. was_accepted (events basis (reverse older)) x ≡ true) ((bytes_eq-Decides other id).0 same) (due_accepted (events basis (reverse older)) other (legal_older older legal.1) was_due) in
      mapped_some (raw_of (reverse older) id) (accepted_found basis (reverse older) id before was))

  pub has_row : (log : List Change) → AreLegal (events basis log) → AreTold (accepted_of log) → has_report (events basis log) id ≡ is_some (row_in basis log id)
  has_row log legal told =
      let turned = reverse-map (event_of basis) log in
      ap (λ l. reported_back id l) turned
      ∙ reported_rows (reverse log) (subst IsLegalBack turned legal) (subst (λ l. AreTold (accepted_of l)) (sym (reverse-twice log)) told)

-- ---- the row that a view has

found_item : (P : List ℕ × Seen → Type 0) (ps : List (List ℕ × Seen)) (id : List ℕ) (s : Seen) → AllByRecursion P ps → value_of (view_of_items ps) id ≡ Some s → (x : List ℕ) × (bytes_eq id x ≡ true) × P (x, s)
found_item P [] id s all is = cc
found_item P (p ∷ ps) id s all is =
    elim (bytes_eq id p.0) as (λ b. bytes_eq id p.0 ≡ b → cond b (Some p.1) (value_of (view_of_items ps) id) ≡ Some s → (x : List ℕ) × (bytes_eq id x ≡ true) × P (x, s)) [
      | true ↦ λ same here.
          let own : p.1 ≡ s = cc in
          (p.0, same, subst (λ y. P (p.0, y)) own all.0)
      | false ↦ λ other later. found_item P ps id s all.1 later
    ] refl (sym (value_of-with_value (view_of_items ps) p.0 p.1 id) ∙ is)

module _ (basis : Basis) (log : List Change) (caller : Caller) where
  abbrev SameRow : List ℕ × Seen → Type 0
  SameRow p = is_some p.1.row ≡ is_some (row_in basis log p.0)

  granted_some : (row : Option (List Cell)) → is_some (option_map (granted_cells caller) row) ≡ is_some row
  granted_some None = refl
  granted_some (Some row) = refl

  item_row_is : (held : Bool) (id : List ℕ) (raw : Option Crash) → IfSome (item caller held id raw (row_in basis log id)) SameRow
  item_row_is false id raw = tt
  item_row_is true id raw =
      elim (shown caller raw) as (λ o. IfSome (option_map (seen_under caller id (row_in basis log id)) o) SameRow) [
        | None ↦ tt
        | Some crash ↦ granted_some (row_in basis log id)
      ]

  -- a crash of a view has a row exactly where it has a report
  pub seen_row : (id : List ℕ) (s : Seen) → AreLegal (events basis log) → AreTold (accepted_of log) → value_of (view_of basis log caller) id ≡ Some s → is_some s.row ≡ has_report (events basis log) id
  seen_row id s legal told is =
      let all = all-filter_map (item_of basis log caller) SameRow (accepted_of log) (every _ (accepted_of log) (λ crash. item_row_is (is_held (events basis log) crash.id) crash.id crash.raw)) in
      let found = found_item SameRow (items_of basis log caller) id s all (subst (λ v. value_of v id ≡ Some s) (view_items basis log caller) is) in
      let same : id ≡ found.0 = (bytes_eq-Decides id found.0).0 found.1 in
      found.2 ∙ (ap (λ x. is_some (row_in basis log x)) (sym same) ∙ sym (has_row basis id log legal told))
