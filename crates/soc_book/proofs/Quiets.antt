-- Changes that the journal doesn't keep: a crash was processed, or the service was stopped.
use Rattle.std.proofs.Common.{◌≡◌, ℕ, ◌<◌, ◌≤◌, true, false, not, ◌&&◌, ◌||◌, IsTrue, List, [], ◌∷◌, ◌++◌, length, map, reverse, Option, Some, None, IfSome, sym, ap, subst, ◌∙◌, refl, arith}
use Rattle.soc_book.proofs.Words.{bytes_eq, if◌then◌else◌, cons_option, find, list_any, option_map, option_and_then, append-nil, filter_map-append, Cell, with_row, DiskTold, place_behind, sealed_all, JournalState, Means, Event, is_due, due_after, accepts, withdraws, accepted_ids, withdrawn_ids, is_among, is_held, was_accepted, was_withdrawn, IsLegalNext, has_report, LedgerState, id_of, with_event, accepted_ids-more, Limits, Basis, Kept, accept, ask, withdraw, report, Change, keep, done, stop, accepted_in, accepted_of, event_of, events, raw_of, row_in, IsSound, IsLegal, Accepted, State, entries_of, kept_in, kept_of, has_id, events-more, held_plain, reverse-twice, was_accepted-is, Pending, AreFiled, AreNew, FitJournal, Fits, HasRow, HasRows, IsOnDisk, IsSafe, Stands, most_together, Holds, AreTold, itself}
use Rattle.std.specs.Prelude.{◌+◌}
use Rattle.std.proofs.lemmas.List.{append_assoc}
use Rattle.soc_ledger.specs.declared.event.Event.TheVariants as E
use Rattle.soc_book.specs.declared.book.Change.TheVariants as P
use Rattle.soc_book.proofs.Changes.{accepted-more, legal-front, legal-next, last_of_legal}
use Rattle.soc_book.proofs.Pushing.{apart, held_behind, idle_more, moved_pending, none_anyway}
use Rattle.soc_book.proofs.Rows.{reported-more, row_has, row_same, rows_put}

-- the journal keeps nothing of the change, and it accepts and withdraws no crash
pub record IsQuiet (change : Change) : Type 0 where
  pub accepts_none : accepted_in change ≡ None
  pub kept_none : kept_in change ≡ None
  pub event_accepts : (basis : Basis) → accepts (event_of basis change) ≡ None
  pub event_withdraws : (basis : Basis) → withdraws (event_of basis change) ≡ None
  pub sound : (older : List Change) → IsSound older change
  pub not_due : (basis : Basis) (place : ℕ) (id : List ℕ) → due_after id (event_of basis change) place None ≡ None

pub done_quiet : (id : List ℕ) → IsQuiet (done id)
done_quiet id = record { accepts_none = refl; kept_none = refl; event_accepts = λ basis. refl; event_withdraws = λ basis. refl; sound = λ older. tt; not_due = λ basis place other. none_anyway (bytes_eq id other) }

pub stop_quiet : IsQuiet stop
stop_quiet = record { accepts_none = refl; kept_none = refl; event_accepts = λ basis. refl; event_withdraws = λ basis. refl; sound = λ older. tt; not_due = λ basis place other. refl }

-- ---- logs that tell the same of which crashes are held

record IsAlike (basis : Basis) (log later : List Change) : Type 0 where
  pub accepted : accepted_of later ≡ accepted_of log
  pub withdrawn : withdrawn_ids (events basis later) ≡ withdrawn_ids (events basis log)

module _ (basis : Basis) (log later : List Change) (same : IsAlike basis log later) where
  was_alike : (id : List ℕ) → was_accepted (events basis later) id ≡ was_accepted (events basis log) id
  was_alike id = was_accepted-is basis later id ∙ (ap (list_any (has_id id)) same.accepted ∙ sym (was_accepted-is basis log id))

  held_alike : (id : List ℕ) → is_held (events basis later) id ≡ is_held (events basis log) id
  held_alike id =
      ap (λ b. b && not (was_withdrawn (events basis later) id)) (was_alike id)
      ∙ ap (λ ids. was_accepted (events basis log) id && not (is_among ids id)) same.withdrawn

  raw_alike : (id : List ℕ) → raw_of later id ≡ raw_of log id
  raw_alike id = ap (λ l. option_and_then (λ c. c.raw) (find (has_id id) l)) same.accepted

  alike_more : (change : Change) → IsAlike basis (log ++ change ∷ []) (later ++ change ∷ [])
  alike_more change = record {
    accepted = accepted-more later change ∙ (ap (λ l. l ++ accepted_of (change ∷ [])) same.accepted ∙ sym (accepted-more log change));
    withdrawn = ap withdrawn_ids (events-more basis later change)
        ∙ (filter_map-append withdraws (events basis later) (event_of basis change ∷ [])
        ∙ (ap (λ l. l ++ withdrawn_ids (event_of basis change ∷ [])) same.withdrawn
        ∙ (sym (filter_map-append withdraws (events basis log) (event_of basis change ∷ []))
        ∙ sym (ap withdrawn_ids (events-more basis log change)))));
  }

  still_legal : (kept : Kept) → IsLegalNext (events basis log) (event_of basis (keep kept)) → IsLegalNext (events basis later) (event_of basis (keep kept))
  still_legal (accept crash) legal = ap not (was_alike crash.id) ∙ legal
  still_legal (ask id) legal = held_alike id ∙ legal
  still_legal (withdraw id) legal = held_alike id ∙ legal
  still_legal (report made) legal = held_alike made.id ∙ legal

  still_sound : (kept : Kept) → IsSound log (keep kept) → IsSound later (keep kept)
  still_sound (accept crash) sound = sound
  still_sound (ask id) sound = tt
  still_sound (withdraw id) sound = tt
  still_sound (report made) sound = rw (raw_alike made.id) sound

  legal_doubt : (kept : Kept) → IsLegal basis later → IsLegal basis (log ++ keep kept ∷ []) → IsLegal basis (later ++ keep kept ∷ [])
  legal_doubt kept legal doubt = let last = last_of_legal basis log (keep kept) doubt in legal-next basis later (keep kept) legal (still_legal kept last.next) (still_sound kept last.sound) last.told

-- the same kept changes may follow both
legal_alike : (basis : Basis) (changes : List Kept) (log later : List Change) → IsAlike basis log later → IsLegal basis later → IsLegal basis (log ++ map keep changes) → IsLegal basis (later ++ map keep changes)
legal_alike basis [] log later same legal doubtful = subst (IsLegal basis) (sym (append-nil later)) legal
legal_alike basis (change ∷ changes) log later same legal doubtful =
    let all : IsLegal basis ((log ++ keep change ∷ []) ++ map keep changes) = subst (IsLegal basis) (sym (append_assoc log (keep change ∷ []) (map keep changes))) doubtful in
    let first : IsLegal basis (later ++ keep change ∷ []) = legal_doubt basis log later same change legal (legal-front basis (log ++ keep change ∷ []) (map keep changes) all) in
    subst (IsLegal basis) (append_assoc later (keep change ∷ []) (map keep changes))
    (legal_alike basis changes (log ++ keep change ∷ []) (later ++ keep change ∷ []) (alike_more basis log later same (keep change)) first all)

module _ (basis : Basis) (log : List Change) (change : Change) (quiet : IsQuiet change) where
  abbrev next : List Change
  next = log ++ change ∷ []

  pub accepted_same : accepted_of next ≡ accepted_of log
  accepted_same = filter_map-append accepted_in log (change ∷ []) ∙ (ap (λ o. accepted_of log ++ cons_option o []) quiet.accepts_none ∙ append-nil (accepted_of log))

  pub kept_same : kept_of next ≡ kept_of log
  kept_same = filter_map-append kept_in log (change ∷ []) ∙ (ap (λ o. kept_of log ++ cons_option o []) quiet.kept_none ∙ append-nil (kept_of log))

  pub held_same : (id : List ℕ) → is_held (events basis next) id ≡ is_held (events basis log) id
  held_same id = ap (λ l. is_held l id) (events-more basis log change) ∙ held_plain (events basis log) (event_of basis change) id (quiet.event_accepts basis) (quiet.event_withdraws basis)

  idle_same : (id : List ℕ) → is_due (events basis log) id ≡ false → is_due (events basis next) id ≡ false
  idle_same id idle = idle_more basis log change id (quiet.not_due basis (length (events basis log)) id) idle

  -- ---- legal logs

  pub legal_next : IsLegal basis log → IsLegalNext (events basis log) (event_of basis change) → IsLegal basis (log ++ change ∷ [])
  legal_next legal next_legal = legal-next basis log change legal next_legal (quiet.sound log) (λ is_told. subst (λ (o : Option Accepted). AreTold (cons_option o [])) (sym quiet.accepts_none) tt)

  alike : IsAlike basis log next
  alike = record {
    accepted = accepted_same;
    withdrawn = ap withdrawn_ids (events-more basis log change)
        ∙ (filter_map-append withdraws (events basis log) (event_of basis change ∷ [])
        ∙ (ap (λ o. withdrawn_ids (events basis log) ++ cons_option o []) (quiet.event_withdraws basis) ∙ append-nil (withdrawn_ids (events basis log))));
  }

  pub legal_doubts : (doubt : List Kept) → IsLegal basis next → IsLegal basis (log ++ map keep doubt) → IsLegal basis (next ++ map keep doubt)
  legal_doubts doubt legal doubtful = legal_alike basis doubt log next alike legal doubtful

-- ---- the tables

module _ {basis : Basis} {limits : Limits} {ledger : LedgerState} {rows : List (ℕ × List Cell)} {pending : Option Pending} {journal : JournalState} {disk : DiskTold} {state : State}
    (stands : Stands basis limits ledger rows pending journal disk state) (change : Change) (quiet : IsQuiet change) where
  abbrev behind : State
  behind = record state { log = state.log ++ change ∷ [] }

  abbrev with_change : LedgerState
  with_change = with_event ledger (event_of basis change)

  still_fits : (doubt : List Kept) → FitJournal basis state.log doubt → FitJournal basis (state.log ++ change ∷ []) doubt
  still_fits [] fits = tt
  still_fits (first ∷ more) fits =
      let Q : List Kept → Type 0 = λ l. place_behind (entries_of l) + length (sealed_all (entries_of (first ∷ more))) ≤ basis.journal_bytes in
      subst Q (sym (kept_same basis state.log change quiet)) fits

  -- the tables with the change stand for the state with it
  pub stands_behind : (rows' : List (ℕ × List Cell)) → IsLegalNext (events basis state.log) (event_of basis change) → HasRows basis (state.log ++ change ∷ []) with_change rows'
      → Stands basis limits with_change rows' pending journal disk behind
  stands_behind rows' next_legal rows_are =
      let legal : IsLegal basis (state.log ++ change ∷ []) = legal_next basis state.log change quiet stands.legal.log next_legal in
      record {
        legal = record { log = legal; doubt = legal_doubts basis state.log change quiet state.doubt legal stands.legal.doubt };
        holds = record {
          events_are = ap (λ l. l ++ event_of basis change ∷ []) stands.holds.events_are ∙ sym (events-more basis state.log change);
          filed =
              subst (λ l. AreFiled (entries_of l) (accepted_of (state.log ++ change ∷ [])) ledger.crashes) (sym (kept_same basis state.log change quiet))
              (subst (λ l. AreFiled (entries_of (kept_of state.log)) l ledger.crashes) (sym (accepted_same basis state.log change quiet)) stands.holds.filed);
          rows_are = rows_are;
        };
        doubt = moved_pending basis state.log (state.log ++ change ∷ []) (idle_same basis state.log change quiet) ledger with_change (λ n. refl) pending state.doubt stands.doubt;
        bounds = stands.bounds;
        told = λ is_told.
            let was : IsOnDisk basis journal disk state = stands.told is_told in
            record {
              means = subst (λ l. Means disk journal (entries_of l) (entries_of state.doubt)) (sym (kept_same basis state.log change quiet)) was.means;
              fits = still_fits state.doubt was.fits;
            };
      }

-- other room for events is no other state
pub stands_room : {basis : Basis} {limits : Limits} {ledger : LedgerState} {rows : List (ℕ × List Cell)} {pending : Option Pending} {journal : JournalState} {disk : DiskTold} {state : State} (room : ℕ)
    → Stands basis limits ledger rows pending journal disk state → Stands basis limits (record ledger { room = room }) rows pending journal disk state
stands_room {basis = basis} {ledger = ledger} {pending = pending} {state = state} room stands = record {
  legal = stands.legal;
  holds = record {
    events_are = stands.holds.events_are;
    filed = stands.holds.filed;
    rows_are = record { rise = stands.holds.rows_are.rise; each = stands.holds.rows_are.each; no_other = stands.holds.rows_are.no_other };
  };
  doubt = moved_pending basis state.log state.log (λ id idle. idle) ledger (record ledger { room = room }) (λ n. refl) pending state.doubt stands.doubt;
  bounds = stands.bounds;
  told = stands.told;
}

pub stands_roomy : {basis : Basis} {limits : Limits} {ledger : LedgerState} {rows : List (ℕ × List Cell)} {pending : Option Pending} {journal : JournalState} {disk : DiskTold} {state : State} {roomy : LedgerState} {room : ℕ} → roomy ≡ record ledger { room = room }
    → Stands basis limits ledger rows pending journal disk state → Stands basis limits roomy rows pending journal disk state
stands_roomy {basis = basis} {limits = limits} {rows = rows} {pending = pending} {journal = journal} {disk = disk} {state = state} {room = room} same stands =
    subst (λ (l : LedgerState). Stands basis limits l rows pending journal disk state) (sym same) (stands_room room stands)

-- ---- what waits still fits

same_ids : (ledger : LedgerState) (event : Event) → accepts event ≡ None → accepted_ids (ledger.log ++ event ∷ []) ≡ accepted_ids ledger.log
same_ids ledger event no_accept = accepted_ids-more ledger.log event ∙ (ap (λ o. accepted_ids ledger.log ++ cons_option o []) no_accept ∙ append-nil (accepted_ids ledger.log))

fits_quiet : (ledger : LedgerState) (event : Event) (room : ℕ) (pending : Pending) → accepts event ≡ None → withdraws event ≡ None → most_together < room → Fits ledger pending → Fits (with_event (record ledger { room = room }) event) pending
fits_quiet ledger event room (P.Accept new) no_accept no_withdrawal large fits = (omega arith, ap (λ ids. is_among ids new.id) (same_ids ledger event no_accept) ∙ fits.1, fits.2)
fits_quiet ledger event room (P.Accepts news) no_accept no_withdrawal large fits =
    (omega arith, fits.1, fits.2, subst (λ (ids : List (List ℕ)). AreNew ids news.items) (sym (same_ids ledger event no_accept)) fits.3)
fits_quiet ledger event room (P.Ask number) no_accept no_withdrawal large fits = (omega arith, fits.1, held_plain ledger.log event (id_of ledger number) no_accept no_withdrawal ∙ fits.2)
fits_quiet ledger event room (P.Withdraw number) no_accept no_withdrawal large fits = (omega arith, fits.1, held_plain ledger.log event (id_of ledger number) no_accept no_withdrawal ∙ fits.2)
fits_quiet ledger event room (P.Reports numbers) no_accept no_withdrawal large fits = (omega arith, fits.1, held_behind ledger event room numbers.items no_accept no_withdrawal fits.2)

fits_room : (ledger : LedgerState) (room : ℕ) (pending : Pending) → most_together ≤ room → Fits ledger pending → Fits (record ledger { room = room }) pending
fits_room ledger room (P.Accept new) large fits = (omega arith, fits.1, fits.2)
fits_room ledger room (P.Accepts news) large fits = (large, fits.1, fits.2, fits.3)
fits_room ledger room (P.Ask number) large fits = (omega arith, fits.1, fits.2)
fits_room ledger room (P.Withdraw number) large fits = (omega arith, fits.1, fits.2)
fits_room ledger room (P.Reports numbers) large fits = (large, fits.1, fits.2)

all_fit : {A : Type 0} {P Q : A → Type 0} (o : Option A) → ((x : A) → P x → Q x) → IfSome o P → IfSome o Q
all_fit None weaker all = tt
all_fit (Some x) weaker all = weaker x all

pub safe_quiet : (ledger : LedgerState) (journal : JournalState) (pending : Option Pending) (event : Event) (room : ℕ) → accepts event ≡ None → withdraws event ≡ None → most_together < room
    → IsSafe ledger journal pending → IsSafe (with_event (record ledger { room = room }) event) journal pending
safe_quiet ledger journal pending event room no_accept no_withdrawal large safe =
    record { unsettled = safe.unsettled; fits = all_fit pending (λ change fits. fits_quiet ledger event room change no_accept no_withdrawal large fits) safe.fits }

-- the same once the event was added
pub safe_after : (ledger roomy after : LedgerState) (journal : JournalState) (pending : Option Pending) (event : Event) → roomy ≡ record ledger { room = roomy.room } → most_together + 1 ≤ roomy.room → after ≡ with_event roomy event
    → accepts event ≡ None → withdraws event ≡ None → IsSafe ledger journal pending → IsSafe after journal pending
safe_after ledger roomy after journal pending event same large is no_accept no_withdrawal safe =
    subst (λ l. IsSafe l journal pending) (sym (is ∙ ap (λ l. with_event l event) same)) (safe_quiet ledger journal pending event roomy.room no_accept no_withdrawal (omega (arith, large)) safe)

-- ---- the rows behind a stop, and once a crash was processed

module _ (basis : Basis) (log : List Change) (ledger : LedgerState) (rows : List (ℕ × List Cell)) (legal : IsLegal basis log) (holds : Holds basis log ledger rows) where
  abbrev now : List Event
  now = events basis log

  pub stop_rows : HasRows basis (log ++ stop ∷ []) (with_event ledger E.Stopped) rows
  stop_rows = record {
    rise = holds.rows_are.rise;
    each = λ number within. let id = id_of ledger number in row_same basis log stop id _ (held_plain now E.Stopped id refl refl) (reported-more now E.Stopped id) refl (holds.rows_are.each number within);
    no_other = holds.rows_are.no_other;
  }

  module _ (number : ℕ) (row : List Cell) (within : number < length ledger.crashes) (held : is_held now (id_of ledger number) ≡ true) (is_row : IsTrue basis.is_told → option_map basis.row_of (raw_of log (id_of ledger number)) ≡ Some row) where
    abbrev id : List ℕ
    id = id_of ledger number

    -- its row, and the row of another crash
    own_row : HasRow basis (log ++ done id ∷ []) id (Some row)
    own_row = row_has basis log (done id) id row (held_plain now (E.Done id) id refl refl ∙ held) (reported-more now (E.Done id) id ∙ ap (λ b. b || has_report now id) (itself id))
        (λ is_told. ap (λ b. if b then option_map basis.row_of (raw_of (reverse (reverse log)) id) else row_in basis log id) (itself id) ∙ (ap (λ l. option_map basis.row_of (raw_of l id)) (reverse-twice log) ∙ is_row is_told))

    other_row : (other : List ℕ) (shown : Option (List Cell)) → bytes_eq id other ≡ false → HasRow basis log other shown → HasRow basis (log ++ done id ∷ []) other shown
    other_row other shown differs has = row_same basis log (done id) other shown (held_plain now (E.Done id) other refl refl) (reported-more now (E.Done id) other ∙ ap (λ b. b || has_report now other) differs)
        (ap (λ b. if b then option_map basis.row_of (raw_of (reverse (reverse log)) other) else row_in basis log other) differs) has

    pub done_rows : HasRows basis (log ++ done id ∷ []) (with_event ledger (E.Done id)) (with_row (number, row) rows)
    done_rows =
        let put = rows_put basis log (log ++ done id ∷ []) ledger rows holds.rows_are number row within own_row
        (λ other less differs. other_row (id_of ledger other) _ (apart basis log ledger rows legal holds number other within less differs) (holds.rows_are.each other less)) in
        record { rise = put.rise; each = put.each; no_other = put.no_other }
