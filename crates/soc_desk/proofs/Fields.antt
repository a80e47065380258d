-- Logs whose rows differ only in fields that aren't granted.
use Rattle.std.proofs.Common.{◌≡◌, ℕ, Bool, true, false, ◌&&◌, List, [], ◌∷◌, map, reverse, Option, Some, None, sym, ap, ◌∙◌, refl}
use Rattle.std.specs.Prelude.{bytes_eq, filter_map, if◌then◌else◌}
use Rattle.std.specs.List.{find}
use Rattle.std.specs.Option.{option_map, option_and_then}
use Rattle.soc_raw.specs.Record.{Crash}
use Rattle.soc_schema.specs.declared.caller.Caller.{Caller}
use Rattle.soc_schema.specs.declared.value.Cell.{Cell}
use Rattle.soc_schema.specs.Permits.{granted_cells, granted_annotations}
use Rattle.soc_ledger.specs.declared.event.Event.TheVariants as E
use Rattle.soc_ledger.specs.Due.{is_due}
use Rattle.soc_ledger.specs.Events.{is_held}
use Rattle.soc_desk.specs.Basis.{Basis}
use Rattle.soc_desk.specs.Laws.{HidesFields, with_row}
use Rattle.soc_desk.specs.Log.{Change, Accepted, accept, ask, withdraw, report, keep, done, stop, accepted_of, events, is_own, raw_of, row_back, row_in}
use Rattle.soc_desk.specs.View.{view_of, seen_of}
use Rattle.soc_desk.proofs.Logs.{reverse-map}
use Rattle.soc_desk.proofs.Views.{item, item_of, items_of, shown, seen_under, view_items, view_of_items, filter_map-same}
use Rattle.soc_desk.proofs.Unseen.{every}

module _ (basis : Basis) (f : List Cell → List Cell) where
  abbrev pub changed : Basis
  changed = record basis { row_of = λ crash. f (basis.row_of crash) }

  same_events : (log : List Change) → events changed (map (with_row f) log) ≡ events basis log
  same_events [] = refl
  same_events (keep (accept crash) ∷ log) = ap (λ t. (E.Accepted crash.id) ∷ t) (same_events log)
  same_events (keep (ask id) ∷ log) = ap (λ t. (E.Asked id) ∷ t) (same_events log)
  same_events (keep (withdraw id) ∷ log) = ap (λ t. (E.Withdrawn id) ∷ t) (same_events log)
  same_events (keep (report made) ∷ log) = ap (λ t. (E.Reported made.id (is_own basis made.digest)) ∷ t) (same_events log)
  same_events (done id ∷ log) = ap (λ t. (E.Done id) ∷ t) (same_events log)
  same_events (stop ∷ log) = ap (λ t. E.Stopped ∷ t) (same_events log)

  same_accepted : (log : List Change) → accepted_of (map (with_row f) log) ≡ accepted_of log
  same_accepted [] = refl
  same_accepted (keep (accept crash) ∷ log) = ap (λ t. crash ∷ t) (same_accepted log)
  same_accepted (keep (ask id) ∷ log) = same_accepted log
  same_accepted (keep (withdraw id) ∷ log) = same_accepted log
  same_accepted (keep (report made) ∷ log) = same_accepted log
  same_accepted (done id ∷ log) = same_accepted log
  same_accepted (stop ∷ log) = same_accepted log

  mapped_twice : (o : Option Crash) → option_map (λ crash. f (basis.row_of crash)) o ≡ option_map f (option_map basis.row_of o)
  mapped_twice None = refl
  mapped_twice (Some crash) = refl

  module _ (id : List ℕ) where
    if_mapped : (b : Bool) (x y : Option (List Cell)) → (if b then option_map f x else option_map f y) ≡ option_map f (if b then x else y)
    if_mapped true x y = refl
    if_mapped false x y = refl

    same_back : (older : List Change) → reverse (map (with_row f) older) ≡ map (with_row f) (reverse older)
    same_back older = reverse-map (with_row f) older

    rows_back : (back : List Change) → row_back changed id (map (with_row f) back) ≡ option_map f (row_back basis id back)
    rows_back [] = refl
    rows_back (keep (accept crash) ∷ older) = rows_back older
    rows_back (keep (ask other) ∷ older) = rows_back older
    rows_back (keep (withdraw other) ∷ older) = rows_back older
    rows_back (stop ∷ older) = rows_back older
    rows_back (done other ∷ older) =
        let raw : raw_of (reverse (map (with_row f) older)) id ≡ raw_of (reverse older) id =
        ap (λ l. raw_of l id) (same_back older) ∙ ap (λ a. option_and_then (λ crash. crash.raw) (find (λ crash. bytes_eq crash.id id) a)) (same_accepted (reverse older)) in
        ap (λ o. if bytes_eq other id then option_map (λ crash. f (basis.row_of crash)) o else row_back changed id (map (with_row f) older)) raw
        ∙ (ap (λ o. if bytes_eq other id then o else row_back changed id (map (with_row f) older)) (mapped_twice (raw_of (reverse older) id))
        ∙ (ap (λ r. if bytes_eq other id then option_map f (option_map basis.row_of (raw_of (reverse older) id)) else r) (rows_back older)
        ∙ if_mapped (bytes_eq other id) (option_map basis.row_of (raw_of (reverse older) id)) (row_back basis id older)))
    rows_back (keep (report made) ∷ older) =
        let due : is_due (events changed (reverse (map (with_row f) older))) id ≡ is_due (events basis (reverse older)) id =
        ap (λ l. is_due (events changed l) id) (same_back older) ∙ ap (λ l. is_due l id) (same_events (reverse older)) in
        ap (λ d. if bytes_eq made.id id && (is_own basis made.digest && d) then Some (f made.row) else row_back changed id (map (with_row f) older)) due
        ∙ (ap (λ r. if bytes_eq made.id id && (is_own basis made.digest && is_due (events basis (reverse older)) id) then Some (f made.row) else r) (rows_back older)
        ∙ if_mapped (bytes_eq made.id id && (is_own basis made.digest && is_due (events basis (reverse older)) id)) (Some made.row) (row_back basis id older))

    same_row : (log : List Change) → row_in changed (map (with_row f) log) id ≡ option_map f (row_in basis log id)
    same_row log = ap (λ back. row_back changed id back) (same_back log) ∙ rows_back (reverse log)

  module _ (caller : Caller) (hides : (row : List Cell) → granted_cells caller (f row) ≡ granted_cells caller row) where
    same_granted : (row : Option (List Cell)) → option_map (granted_cells caller) (option_map f row) ≡ option_map (granted_cells caller) row
    same_granted None = refl
    same_granted (Some row) = ap Some (hides row)

    same_seen : (held : Bool) (id : List ℕ) (raw : Option Crash) (row : Option (List Cell)) → item caller held id raw (option_map f row) ≡ item caller held id raw row
    same_seen false id raw row = refl
    same_seen true id raw row =
        elim (shown caller raw) as (λ o. option_map (seen_under caller id (option_map f row)) o ≡ option_map (seen_under caller id row) o) [
          | None ↦ refl
          | Some crash ↦ ap (λ r. Some (id, record { annotations = granted_annotations caller crash.annotations; dumps = (seen_of caller crash row).dumps; row = r })) (same_granted row)
        ]

    same_items : (log : List Change) (crash : Accepted) → item_of changed (map (with_row f) log) caller crash ≡ item_of basis log caller crash
    same_items log crash =
        ap (λ l. item caller (is_held l crash.id) crash.id crash.raw (row_in changed (map (with_row f) log) crash.id)) (same_events log)
        ∙ (ap (λ r. item caller (is_held (events basis log) crash.id) crash.id crash.raw r) (same_row crash.id log)
        ∙ same_seen (is_held (events basis log) crash.id) crash.id crash.raw (row_in basis log crash.id))

    same_view : (log : List Change) → view_of changed (map (with_row f) log) caller ≡ view_of basis log caller
    same_view log =
        let f' = item_of changed (map (with_row f) log) caller in
        let items : items_of changed (map (with_row f) log) caller ≡ items_of basis log caller =
        ap (filter_map f') (same_accepted log) ∙ filter_map-same f' (item_of basis log caller) (accepted_of log) (every _ (accepted_of log) (same_items log)) in
        view_items changed (map (with_row f) log) caller ∙ (ap view_of_items items ∙ sym (view_items basis log caller))

pub hides_fields : HidesFields
hides_fields basis log caller f hides = same_view basis f caller hides log
