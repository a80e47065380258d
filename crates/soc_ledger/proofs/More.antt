-- What one more event at the end of a log says of each crash.
use Rattle.std.proofs.Common.{◌≡◌, ℕ, Bool, true, false, ◌&&◌, ◌||◌, List, [], ◌∷◌, ◌++◌, length, reverse, Option, Some, None, ap, ◌∙◌, refl}
use Rattle.std.specs.Prelude.{bytes_eq, filter_map, is_some, unwrap_or, if◌then◌else◌}
use Rattle.std.specs.Option.{option_map_or}
use Rattle.std.proofs.Math.Bool.{or-false}
use Rattle.std.proofs.lemmas.List.{length-reverse}
use Rattle.std.proofs.lemmas.List.Elements.{filter_map-append}
use Rattle.std.proofs.lemmas.List.Folds.{list_any-append}
use Rattle.soc_ledger.specs.declared.crash.Standing.{Standing}
use Rattle.soc_ledger.specs.declared.event.Event.{Event}
use Rattle.soc_ledger.specs.declared.event.Event.TheVariants.{Accepted, Asked, Withdrawn, Reported, Done, Stopped}
use Rattle.soc_ledger.specs.Due.{due_after, due_since, due_since_back, is_due_at_once}
use Rattle.soc_ledger.specs.Events.{accepted_in, accepted_ids, is_among, was_withdrawn, withdrawn_in}
use Rattle.soc_ledger.specs.Reported.{has_report, is_kept, kept_after, kept_back, reported_after, reported_back}
use Rattle.soc_ledger.specs.State.{standing_of}
use Rattle.soc_ledger.specs.inner.Tables.{about, standing_after}
use Rattle.soc_ledger.proofs.Lists.{reverse-more}

pub due_since-more : (log : List Event) (event : Event) (id : List ℕ) → due_since (log ++ event ∷ []) id ≡ due_after id event (length log) (due_since log id)
due_since-more log event id =
    ap (λ back. due_since_back id back) (reverse-more log event)
    ∙ ap (λ n. due_after id event n (due_since_back id (reverse log))) (length-reverse log)

has_report-more : (log : List Event) (event : Event) (id : List ℕ) → has_report (log ++ event ∷ []) id ≡ reported_after id event (reverse log) (has_report log id)
has_report-more log event id = ap (λ back. reported_back id back) (reverse-more log event)

is_kept-more : (log : List Event) (event : Event) (id : List ℕ) → is_kept (log ++ event ∷ []) id ≡ kept_after id event (is_kept log id)
is_kept-more log event id = ap (λ back. kept_back id back) (reverse-more log event)

was_withdrawn-more : (log : List Event) (event : Event) (id : List ℕ)
    → was_withdrawn (log ++ event ∷ []) id ≡ (was_withdrawn log id || is_among (filter_map withdrawn_in (event ∷ [])) id)
was_withdrawn-more log event id =
    ap (λ ids. is_among ids id) (filter_map-append withdrawn_in log (event ∷ []))
    ∙ list_any-append (λ other. bytes_eq other id) (filter_map withdrawn_in log) (filter_map withdrawn_in (event ∷ []))

pub accepted_ids-more : (log : List Event) (event : Event) → accepted_ids (log ++ event ∷ []) ≡ accepted_ids log ++ filter_map accepted_in (event ∷ [])
accepted_ids-more log event = filter_map-append accepted_in log (event ∷ [])

abbrev stands : Bool → Option ℕ → Bool → Bool → Standing
stands withdrawn since reported kept = record { withdrawn = withdrawn; due_since = since; has_report = reported; is_kept = kept }

-- the event is of this crash
abbrev pub is_about : Event → List ℕ → Bool
is_about event id = option_map_or (λ other. bytes_eq other id) (about event) false

module _ (log : List Event) (q : List ℕ) where
  abbrev w : Bool
  w = was_withdrawn log q

  abbrev d : Option ℕ
  d = due_since log q

  abbrev r : Bool
  r = has_report log q

  abbrev k : Bool
  k = is_kept log q

  each : (event : Event) → standing_of (log ++ event ∷ []) q
      ≡ stands (w || is_among (filter_map withdrawn_in (event ∷ [])) q) (due_after q event (length log) d) (reported_after q event (reverse log) r) (kept_after q event k)
  each event =
      ap (λ u. stands u (due_since (log ++ event ∷ []) q) (has_report (log ++ event ∷ []) q) (is_kept (log ++ event ∷ []) q)) (was_withdrawn-more log event q)
      ∙ (ap (λ u. stands (w || is_among (filter_map withdrawn_in (event ∷ [])) q) u (has_report (log ++ event ∷ []) q) (is_kept (log ++ event ∷ []) q)) (due_since-more log event q)
      ∙ (ap (λ u. stands (w || is_among (filter_map withdrawn_in (event ∷ [])) q) (due_after q event (length log) d) u (is_kept (log ++ event ∷ []) q)) (has_report-more log event q)
      ∙ ap (λ u. stands (w || is_among (filter_map withdrawn_in (event ∷ [])) q) (due_after q event (length log) d) (reported_after q event (reverse log) r) u) (is_kept-more log event q)))

  or_true : (b : Bool) → (b || true) ≡ true
  or_true true = refl
  or_true false = refl

  abbrev due_after_ask : Bool → Option ℕ
  due_after_ask b = if b then Some (unwrap_or d (length log)) else d

  abbrev due_after_report : Bool → Bool → Option ℕ
  due_after_report b o = if b && o then None else d

  abbrev has_report_after_report : Bool → Bool → Bool
  has_report_after_report b o = ((b && o) && is_some d) || r

  abbrev is_kept_after_report : Bool → Bool → Bool
  is_kept_after_report b o = (b && o) || k

  -- of its own crash an event says what it says, and of the others nothing
  says : (event : Event)
      → stands (w || is_among (filter_map withdrawn_in (event ∷ [])) q) (due_after q event (length log) d) (reported_after q event (reverse log) r) (kept_after q event k)
      ≡ (if is_about event q then standing_after event (length log) (standing_of log q) else standing_of log q)
  says (Accepted id) =
      elim (bytes_eq id q) as (λ b. stands (w || false) (if b then (if is_due_at_once id then Some (length log) else None) else d) r (if b then false else k)
      ≡ (if b then standing_after (Accepted id) (length log) (standing_of log q) else standing_of log q)) [
        | true ↦ ap (λ u. stands u (if is_due_at_once id then Some (length log) else None) r false) (or-false w)
        | false ↦ ap (λ u. stands u d r k) (or-false w)
      ]
  says (Asked id) =
      elim (bytes_eq id q) as (λ b. stands (w || false) (due_after_ask b) r (if b then false else k)
      ≡ (if b then standing_after (Asked id) (length log) (standing_of log q) else standing_of log q)) [
        | true ↦ ap (λ u. stands u (due_after_ask true) r false) (or-false w)
        | false ↦ ap (λ u. stands u d r k) (or-false w)
      ]
  says (Withdrawn id) =
      elim (bytes_eq id q) as (λ b. stands (w || (b || false)) (if b then None else d) r k
      ≡ (if b then standing_after (Withdrawn id) (length log) (standing_of log q) else standing_of log q)) [
        | true ↦ ap (λ u. stands u None r k) (or_true w)
        | false ↦ ap (λ u. stands u d r k) (or-false w)
      ]
  says (Reported id own) =
      elim (bytes_eq id q) as (λ b. stands (w || false) (due_after_report b own) (has_report_after_report b own) (is_kept_after_report b own)
      ≡ (if b then standing_after (Reported id own) (length log) (standing_of log q) else standing_of log q)) [
        | true ↦ elim own as (λ o. stands (w || false) (due_after_report true o) (has_report_after_report true o) (is_kept_after_report true o)
            ≡ standing_after (Reported id o) (length log) (standing_of log q)) [
              | true ↦ ap (λ u. stands u (due_after_report true true) (has_report_after_report true true) (is_kept_after_report true true)) (or-false w)
              | false ↦ ap (λ u. stands u d r k) (or-false w)
            ]
        | false ↦ ap (λ u. stands u d r k) (or-false w)
      ]
  says (Done id) =
      elim (bytes_eq id q) as (λ b. stands (w || false) (if b then None else d) (b || r) k
      ≡ (if b then standing_after (Done id) (length log) (standing_of log q) else standing_of log q)) [
        | true ↦ ap (λ u. stands u None true k) (or-false w)
        | false ↦ ap (λ u. stands u d r k) (or-false w)
      ]
  says Stopped = ap (λ u. stands u d r k) (or-false w)

  pub standing_of-more : (event : Event)
      → standing_of (log ++ event ∷ []) q ≡ (if is_about event q then standing_after event (length log) (standing_of log q) else standing_of log q)
  standing_of-more event = each event ∙ says event
