-- Submissions that are written together, one by one.
use Rattle.std.proofs.Common.{◌≡◌, ◌⊎◌, inl, inr, ℕ, suc, ◌+◌, ◌≤◌, ◌<◌, Bool, true, false, not, IsTrue, List, [], ◌∷◌, ◌++◌, length, map, Option, Some, None, IsSomeAnd, refl, sym, ap, subst, ◌∙◌, arith, append_assoc, length-append}
use Rattle.std.specs.Prelude.{nat_le, if◌then◌else◌}
use Rattle.std.specs.Option.{option_map_or}
use Rattle.std.proofs.lemmas.Bool.Decides.{leb_tells}
use Rattle.std.proofs.lemmas.List.{append-nil, map-append}
use Rattle.std.proofs.lemmas.List.Elements.{filter_map-append}
use Rattle.soc_raw.specs.RawCrash.{crash_of}
use Rattle.soc_raw.specs.Record.{Crash}
use Rattle.soc_raw.specs.declared.raw_crash.RawCrash.{RawCrash}
use Rattle.soc_journal.specs.Entries.{Entry, beside_body, entry_text, entries_text, place_behind, sealed_all}
use Rattle.soc_journal.proofs.Texts.{length-entry_text, length-sealed_all, place_behind-push}
use Rattle.soc_ledger.specs.declared.event.Event.{Event}
use Rattle.soc_ledger.specs.declared.event.Event.TheVariants as E
use Rattle.soc_ledger.specs.Due.{is_due_at_once}
use Rattle.soc_ledger.specs.Events.{accepted_ids, accepted_in as accepts_in, was_accepted, was_withdrawn}
use Rattle.soc_ledger.specs.Legal.{IsLegal as AreLegal}
use Rattle.soc_ledger.proofs.Lists.{true_is_not_false}
use Rattle.soc_ledger.proofs.Logs.{legal-more, unknown_crash}
use Rattle.soc_desk.specs.declared.desk.Command.TheVariants as C
use Rattle.soc_desk.specs.declared.desk.Receipt.{Receipt}
use Rattle.soc_desk.specs.declared.desk.Reply.{Reply}
use Rattle.soc_desk.specs.declared.desk.Reply.TheVariants as R
use Rattle.soc_desk.specs.declared.desk.Refusal.TheVariants as F
use Rattle.soc_desk.specs.Basis.{Basis}
use Rattle.soc_desk.specs.Batches.{AcceptNew, AreStored, BatchesAreRuns, Runs}
use Rattle.soc_desk.specs.Decisions.{Decision, accepting, answers, appends, decide_new, decide_repeated, decide_submission}
use Rattle.soc_desk.specs.Desk.{Appends, Decides, IfElse, Step}
use Rattle.soc_desk.specs.Log.{Accepted, Change, Kept, accept, ask, withdraw, report, keep, event_of, events, raw_of}
use Rattle.soc_desk.specs.State.{State, entry_of, entries_of, body_of, has_room, kept_in, kept_of, settled}
use Rattle.soc_desk.proofs.Found.{found_accepted}
use Rattle.soc_desk.proofs.Logs.{events-more}

module _ (basis : Basis) (log : List Change) (raw : RawCrash) (legal : AreLegal (events basis log)) (new : was_accepted (events basis log) raw.id ≡ false) where
  abbrev crash : Crash
  crash = crash_of raw

  abbrev change : Kept
  change = accepting crash

  abbrev written : Reply
  written = R.Stored raw.id (is_due_at_once raw.id)

  not_withdrawn : was_withdrawn (events basis log) raw.id ≡ false
  not_withdrawn = ap (λ s. s.withdrawn) (unknown_crash (events basis log) legal raw.id new)

  no_raw : (held : Option Crash) → raw_of log raw.id ≡ held → held ≡ None
  no_raw None is = refl
  no_raw (Some held) is = absurd (true_is_not_false (sym (found_accepted basis log raw.id held is) ∙ new))

  decides : nat_le basis.crashes (length (accepted_ids (events basis log))) ≡ false → decide_submission basis log crash ≡ appends change written
  decides few =
      ap (λ b. if b then answers (R.Refused (F.Withdrawn raw.id)) else option_map_or (decide_repeated crash) (raw_of log raw.id) (decide_new basis log crash)) not_withdrawn
      ∙ (ap (λ (o : Option Crash). option_map_or (decide_repeated crash) o (decide_new basis log crash)) (no_raw (raw_of log raw.id) refl)
      ∙ ap (λ b. if b then answers (R.Refused F.TooManyCrashes) else appends change written) few)

  appends_it : (b : Bool) → b ≡ true → (reply : Reply) → reply ≡ written
      → IfElse b (((reply ≡ written) × (settled (log ++ keep change ∷ []) ≡ settled (log ++ keep change ∷ []))) ⊎ ((reply ≡ R.Refused F.StoreFault) × (settled (log ++ keep change ∷ []) ≡ record { log = log; doubt = change ∷ [] })))
      ((reply ≡ R.Refused F.JournalFull) × (settled (log ++ keep change ∷ []) ≡ settled log))
  appends_it true is reply said = inl (said, refl)
  appends_it false is reply said = absurd (true_is_not_false (sym is))

  pub stores : nat_le basis.crashes (length (accepted_ids (events basis log))) ≡ false → has_room basis log change ≡ true → (reply : Reply) → reply ≡ written → Step basis (settled log) (C.Submit raw) reply (settled (log ++ keep change ∷ []))
  stores few room reply said = inr (inr (record {
    log = log;
    settles = refl;
    decides = inl (subst (λ (d : Decision). Decides basis log d reply (settled (log ++ keep change ∷ []))) (sym (decides few)) (appends_it (has_room basis log change) room reply said));
  }))

-- ---- limits

few_enough : (most count more : ℕ) → count + suc more ≤ most → nat_le most count ≡ false
few_enough most count more few = elim (leb_tells most count) [
  | inl both ↦ let full = both.1 in absurd (omega (arith, few, full))
  | inr both ↦ both.0
]

has_room_for : (place long limit : ℕ) → place + beside_body + long ≤ limit → nat_le (place + beside_body + long) limit ≡ true
has_room_for place long limit fits = elim (leb_tells (place + beside_body + long) limit) [
  | inl both ↦ both.0
  | inr both ↦ let over = both.1 in absurd (omega (arith, fits, over))
]

module _ (basis : Basis) (log : List Change) (change : Kept) where
  abbrev next : List Change
  next = log ++ keep change ∷ []

  abbrev place : ℕ
  place = place_behind (entries_of (kept_of log))

  place_next : place_behind (entries_of (kept_of next)) ≡ place + length (entry_text (entry_of change))
  place_next =
      let kept : kept_of next ≡ kept_of log ++ change ∷ [] = filter_map-append kept_in log (keep change ∷ []) in
      ap (λ (k : List Kept). place_behind (entries_of k)) kept
      ∙ (ap (λ (es : List Entry). place_behind es) (map-append entry_of (kept_of log) (change ∷ [])) ∙ place_behind-push (entries_of (kept_of log)) (entry_of change))

  rest_fits : (changes : List Kept) → place + length (sealed_all (entries_of (change ∷ changes))) ≤ basis.journal_bytes → place_behind (entries_of (kept_of next)) + length (sealed_all (entries_of changes)) ≤ basis.journal_bytes
  rest_fits changes fits =
      omega (arith, fits, place_next, length-sealed_all (entries_of (change ∷ changes)), length-sealed_all (entries_of changes), length-append (entry_text (entry_of change)) (entries_text (entries_of changes)))

  first_fits : (changes : List Kept) → place + length (sealed_all (entries_of (change ∷ changes))) ≤ basis.journal_bytes → has_room basis log change ≡ true
  first_fits changes fits =
      has_room_for place (length (body_of change)) basis.journal_bytes
      (omega (arith, fits, length-sealed_all (entries_of (change ∷ changes)), length-append (entry_text (entry_of change)) (entries_text (entries_of changes)), length-entry_text (entry_of change)))

accepted_next : (basis : Basis) (log : List Change) (crash : Accepted) → length (accepted_ids (events basis (log ++ keep (accept crash) ∷ []))) ≡ length (accepted_ids (events basis log)) + 1
accepted_next basis log crash =
    ap (λ (es : List Event). length (accepted_ids es)) (events-more basis log (keep (accept crash)))
    ∙ (ap (λ (xs : List (List ℕ)). length xs) (filter_map-append accepts_in (events basis log) (E.Accepted crash.id ∷ [])) ∙ length-append (accepted_ids (events basis log)) (crash.id ∷ []))

runs : (basis : Basis) → IsTrue basis.is_told → (raws : List RawCrash) (log : List Change) (changes : List Kept) (receipts : List Receipt) → AreLegal (events basis log) → AcceptNew basis log raws changes
    → length (accepted_ids (events basis log)) + length raws ≤ basis.crashes → place_behind (entries_of (kept_of log)) + length (sealed_all (entries_of changes)) ≤ basis.journal_bytes → AreStored raws receipts
    → Runs basis (settled log) (map C.Submit raws) receipts (settled (log ++ map keep changes))
runs basis is_told [] log [] [] legal accepts few fits stored = ap settled (append-nil log)
runs basis is_told [] log [] (receipt ∷ receipts) legal accepts few fits stored = absurd stored
runs basis is_told [] log (change ∷ changes) receipts legal accepts few fits stored = absurd accepts
runs basis is_told (raw ∷ raws) log [] receipts legal accepts few fits stored = absurd accepts
runs basis is_told (raw ∷ raws) log (change ∷ changes) [] legal accepts few fits stored = absurd stored
runs basis is_told (raw ∷ raws) log (ask id ∷ changes) (receipt ∷ receipts) legal accepts few fits stored = absurd accepts.0
runs basis is_told (raw ∷ raws) log (withdraw id ∷ changes) (receipt ∷ receipts) legal accepts few fits stored = absurd accepts.0
runs basis is_told (raw ∷ raws) log (report made ∷ changes) (receipt ∷ receipts) legal accepts few fits stored = absurd accepts.0
runs basis is_told (raw ∷ raws) log (accept crash ∷ changes) (receipt ∷ receipts) legal accepts few fits stored =
    let change : Kept = accept crash in
    let same : accept crash ≡ accepting (crash_of raw) = accepts.0.1 is_told in
    let next_new : was_accepted (events basis log) crash.id ≡ false = ap (λ x. was_accepted (events basis log) x) accepts.0.0 ∙ accepts.1 in
    let next_legal : AreLegal (events basis (log ++ keep (accept crash) ∷ [])) = subst AreLegal (sym (events-more basis log (keep (accept crash)))) (legal-more (events basis log) (E.Accepted crash.id) legal (ap not next_new)) in
    let step = stores basis log raw legal accepts.1 (few_enough basis.crashes (length (accepted_ids (events basis log))) (length raws) few)
    (ap (λ (k : Kept). has_room basis log k) (sym same) ∙ first_fits basis log (accept crash) changes fits) receipt.reply stored.0 in
    let later = runs basis is_told raws (log ++ keep (accept crash) ∷ []) changes receipts next_legal accepts.2 (omega (arith, few, accepted_next basis log crash)) (rest_fits basis log (accept crash) changes fits) stored.1 in (
      settled (log ++ keep (accept crash) ∷ []),
      subst (λ (k : Kept). Step basis (settled log) (C.Submit raw) receipt.reply (settled (log ++ keep k ∷ []))) (sym same) step,
      subst (λ (l : List Change). Runs basis (settled (log ++ keep (accept crash) ∷ [])) (map C.Submit raws) receipts (settled l)) (append_assoc log (keep (accept crash) ∷ []) (map keep changes)) later,
    )

pub batches_are_runs : BatchesAreRuns
batches_are_runs basis log raws changes receipts is_told legal accepts few fits stored = runs basis is_told raws log changes receipts legal.events_legal accepts few fits stored
