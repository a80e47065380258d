-- The tables once a change is added to them stand for the log with that change.
use Rattle.std.proofs.Common.{◌≡◌, ◌≢◌, ℕ, ◌+◌, ◌-◌, ◌<◌, ◌^◌, min, Bool, true, false, not, ◌&&◌, IsTrue, List, [], ◌∷◌, ◌++◌, length, map, Option, Some, None, IfSome, IsSome, sym, ap, subst, ◌∙◌, refl, arith, length-append, inl, inr}
use Rattle.soc_book.proofs.Words.{bytes_eq, is_some, if◌then◌else◌, option_map, option_map_or, cases_lt, cases_eq, false_from_ne_true, append-nil, IfSome_then, Crash, head_text, content_text, record_of, record_length, Cell, Entry, entries_text, entry_text, head_size, place_behind, length-entry_text, place_behind-push, Filed, Event, due_after, due_since, is_due, accepts, withdraws, was_accepted, accepted_ids, is_among, is_held, LedgerState, id_of, with_event, AreDistinct, true_is_not_false, same_text, all-weaker, distinct_ids, not_true, accepted_ids-more, due_since-more, row_at, without_row, Basis, Change, Kept, Accepted, KeptReport, accept, ask, withdraw, report, keep, accepted_of, event_of, events, is_own, IsLegal, entry_of, entries_of, kept_of, body_of, events-more, held_plain, Pending, NewCrash, Tells, AreAccepted, AreHeld, AreNew, ArePending, AreReports, Fits, IsFiledAt, Pushes, PushesNew, IsFiledOf, IsFiled, AreFiled, HasRow, HasRows, Holds, IsPending, with_reports}
use Rattle.std.proofs.lemmas.List.{append_assoc}
use Rattle.soc_ledger.specs.declared.event.Event.TheVariants as E
use Rattle.soc_store.proofs.StoreLemmas.{rise_without}
use Rattle.soc_book.specs.declared.book.Change.TheVariants as P
use Rattle.soc_book.proofs.Changes.{accepted-more, entries-more, ids_of-log, legal-front}
use Rattle.soc_book.proofs.Filing.{AreFiled-more, AreFiled-push, filed_ids, id_of-front, id_of-last, among_ids, distinct_numbers}
use Rattle.soc_book.proofs.Rows.{row_accept, row_ask, row_new, row_others, row_idle, row_withdrawn, row_at-others, row_at-taken, no_row, all_left, and_false, none_of}

-- where the entry of a kept change stands, and that it ends below 2 ^ 64
pub record IsPlaced (basis : Basis) (log : List Change) (change : Kept) (place : ℕ) : Type 0 where
  pub place_is : place ≡ place_behind (entries_of (kept_of log))
  pub ends : place + head_size + length (body_of change) < 2 ^ 64

-- where the entries of kept changes stand, and that they end below 2 ^ 64
pub record ArePlaced (basis : Basis) (log : List Change) (changes : List Kept) (place : ℕ) : Type 0 where
  pub place_is : place ≡ place_behind (entries_of (kept_of log))
  pub ends : place + length (entries_text (entries_of changes)) < 2 ^ 64

module _ (basis : Basis) (log : List Change) (change : Kept) (more : List Kept) (place : ℕ) (placed : ArePlaced basis log (change ∷ more) place) where
  parts : length (entries_text (entries_of (change ∷ more))) ≡ length (entry_text (entry_of change)) + length (entries_text (entries_of more))
  parts = length-append (entry_text (entry_of change)) (entries_text (entries_of more))

  placed_first : IsPlaced basis log change place
  placed_first =
      let ends = placed.ends in
      record { place_is = placed.place_is; ends = omega (arith, ends, parts, length-entry_text (entry_of change)) }

  placed_next : (size : ℕ) → size ≡ length (entry_text (entry_of change)) → ArePlaced basis (log ++ keep change ∷ []) more (min (place + size) (2 ^ 64 - 1))
  placed_next size sized =
      let ends = placed.ends in
      let at = placed.place_is in
      let next : place_behind (entries_of (kept_of (log ++ keep change ∷ []))) ≡ place_behind (entries_of (kept_of log)) + length (entry_text (entry_of change)) =
      ap (λ (es : List Entry). place_behind es) (entries-more log change) ∙ place_behind-push (entries_of (kept_of log)) (entry_of change) in
      record { place_is = omega (arith, at, ends, parts, next, sized); ends = omega (arith, ends, parts, sized) }

abbrev row_of : ℕ → List (ℕ × List Cell) → Option (List Cell)
row_of number rows = option_map (λ s. s.1) (row_at number rows)

module _ (basis : Basis) (log : List Change) (ledger : LedgerState) (rows : List (ℕ × List Cell)) (legal : IsLegal basis log) (holds : Holds basis log ledger rows) where
  abbrev now : List Event
  now = events basis log

  pub ids : map (λ (f : Filed). f.id) ledger.crashes ≡ accepted_ids now
  ids = filed_ids (entries_of (kept_of log)) (accepted_of log) ledger.crashes holds.filed ∙ sym (ids_of-log basis log)

  pub was : (number : ℕ) → number < length ledger.crashes → was_accepted now (id_of ledger number) ≡ true
  was number less = ap (λ xs. is_among xs (id_of ledger number)) (sym ids) ∙ among_ids ledger.crashes number less

  pub one_number : (m n : ℕ) → m < length ledger.crashes → n < length ledger.crashes → id_of ledger m ≡ id_of ledger n → m ≡ n
  one_number m n first second same = distinct_numbers ledger.crashes m n (subst AreDistinct (sym ids) (distinct_ids now legal.events_legal)) first second same

  -- the events once one is added
  events-pushed : (event : Event) (change : Change) → event_of basis change ≡ event → ledger.log ++ event ∷ [] ≡ events basis (log ++ change ∷ [])
  events-pushed event change is = ap (λ l. l ++ event ∷ []) holds.events_are ∙ (ap (λ e. now ++ e ∷ []) (sym is) ∙ sym (events-more basis log change))

  -- where the crashes and the rows stay, and each row still stands
  module _ (change : Kept) (none : accepted_of (keep change ∷ []) ≡ []) where
    filed-kept : AreFiled (entries_of (kept_of (log ++ keep change ∷ []))) (accepted_of (log ++ keep change ∷ [])) ledger.crashes
    filed-kept =
        let more = AreFiled-more (entries_of (kept_of log)) (entry_of change ∷ []) (accepted_of log) ledger.crashes holds.filed in
        let same : accepted_of (log ++ keep change ∷ []) ≡ accepted_of log = accepted-more log (keep change) ∙ (ap (λ (xs : List Accepted). accepted_of log ++ xs) none ∙ append-nil (accepted_of log)) in
        subst (λ (es : List Entry). AreFiled es (accepted_of (log ++ keep change ∷ [])) ledger.crashes) (sym (entries-more log change))
        (subst (λ (cs : List Accepted). AreFiled (entries_of (kept_of log) ++ entry_of change ∷ []) cs ledger.crashes) (sym same) more)

    pub kept_holds : (event : Event) (rows' : List (ℕ × List Cell)) → event_of basis (keep change) ≡ event → HasRows basis (log ++ keep change ∷ []) ledger rows' → Holds basis (log ++ keep change ∷ []) (with_event ledger event) rows'
    kept_holds event rows' is has = record {
      events_are = events-pushed event (keep change) is;
      filed = filed-kept;
      rows_are = record { rise = has.rise; each = has.each; no_other = has.no_other };
    }

  -- ---- an ask

  pub pushed_ask : (id : List ℕ) → Holds basis (log ++ keep (ask id) ∷ []) (with_event ledger (E.Asked id)) rows
  pushed_ask id = kept_holds (ask id) refl (E.Asked id) rows refl (record {
    rise = holds.rows_are.rise;
    each = λ number less. row_ask basis log legal id (id_of ledger number) (row_of number rows) (holds.rows_are.each number less);
    no_other = holds.rows_are.no_other;
  })

  -- ---- a report of a crash that isn't due

  pub pushed_report : (made : KeptReport) (id : List ℕ) → id ≡ made.id → is_own basis made.digest ≡ true → is_due now made.id ≡ false
      → Holds basis (log ++ keep (report made) ∷ []) (with_event ledger (E.Reported id true)) rows
  pushed_report made id same own idle = kept_holds (report made) refl (E.Reported id true) rows (ap (λ x. E.Reported x (is_own basis made.digest)) (sym same) ∙ ap (λ b. E.Reported id b) own) (record {
    rise = holds.rows_are.rise;
    each = λ number less. row_idle basis log made (id_of ledger number) (row_of number rows) (ap (λ d. is_own basis made.digest && d) idle ∙ and_false (is_own basis made.digest)) (holds.rows_are.each number less);
    no_other = holds.rows_are.no_other;
  })

  -- ---- a withdrawal

  -- two numbers have two ids
  pub apart : (m n : ℕ) → m < length ledger.crashes → n < length ledger.crashes → n ≢ m → bytes_eq (id_of ledger m) (id_of ledger n) ≡ false
  apart m n first second other = false_from_ne_true (bytes_eq (id_of ledger m) (id_of ledger n)) (λ is. other (sym (one_number m n first second (same_text (id_of ledger m) (id_of ledger n) is))))

  pub pushed_withdraw : (number : ℕ) → number < length ledger.crashes → Holds basis (log ++ keep (withdraw (id_of ledger number)) ∷ []) (with_event ledger (E.Withdrawn (id_of ledger number))) (without_row number rows)
  pushed_withdraw number within = kept_holds (withdraw (id_of ledger number)) refl (E.Withdrawn (id_of ledger number)) (without_row number rows) refl (record {
    rise = rise_without number rows holds.rows_are.rise;
    each = λ other less. elim (cases_eq other number) [
      | inl here ↦ subst (λ n. HasRow basis (log ++ keep (withdraw (id_of ledger number)) ∷ []) (id_of ledger n) (row_of n (without_row number rows))) (sym here)
          (subst (HasRow basis (log ++ keep (withdraw (id_of ledger number)) ∷ []) (id_of ledger number)) (sym (ap (option_map (λ s. s.1)) (row_at-taken number rows holds.rows_are.rise))) (row_withdrawn basis log legal (id_of ledger number)))
      | inr differs ↦ subst (HasRow basis (log ++ keep (withdraw (id_of ledger number)) ∷ []) (id_of ledger other)) (sym (ap (option_map (λ s. s.1)) (row_at-others number other rows differs)))
          (row_others basis log legal (id_of ledger number) (id_of ledger other) (row_of other rows) (apart number other within less differs) (holds.rows_are.each other less))
    ];
    no_other = all_left (λ s. s.0 < length ledger.crashes) number rows holds.rows_are.no_other;
  })

  -- ---- an acceptance

  module _ (new : NewCrash) (crash : Accepted) (filed : Filed) (place : ℕ) (at : IsFiledAt new place filed) (id : new.id ≡ crash.id) (tells : IfSome crash.raw (Tells new)) (fresh : was_accepted now crash.id ≡ false)
      (told : IsSome crash.raw → IsPlaced basis log (accept crash) place) where
    abbrev longer : List Change
    longer = log ++ keep (accept crash) ∷ []

    abbrev grown : LedgerState
    grown = record (with_event ledger (E.Accepted filed.id)) { crashes = ledger.crashes ++ filed ∷ [] }

    same_id : filed.id ≡ crash.id
    same_id = at.id ∙ id

    filed_of : (raw : Crash) → crash.raw ≡ Some raw → Tells new raw → IsFiledOf (entries_of (kept_of log) ++ entry_of (accept crash) ∷ []) filed raw
    filed_of raw is of =
        let placed = told (ap is_some is) in
        let body : body_of (accept crash) ≡ record_of raw = ap (λ (o : Option Crash). option_map_or record_of o []) is in
        let long : length (body_of (accept crash)) ≡ length (head_text raw) + length (content_text raw) = ap (λ (x : List ℕ). length x) body ∙ record_length raw in
        let ends : place + head_size + length (body_of (accept crash)) < 2 ^ 64 = placed.ends in
        let content : new.content ≡ length (head_text raw) = of.content in
        let fits : place + head_size + new.content < 2 ^ 64 = omega arith in
        record {
          product = at.product ∙ of.product;
          digest = at.digest ∙ of.digest;
          at = record {
            before = entries_of (kept_of log);
            behind = [];
            whole = ap (λ (e : Entry). entries_of (kept_of log) ++ e ∷ []) (ap (λ (b : List ℕ). record { kind = 65; body = b }) body);
            place_is = at.place_is ∙ placed.place_is;
          };
          content = at.content fits ∙ (ap (λ n. place + (head_size + n)) content ∙ ap (λ n. n + (head_size + length (head_text raw))) (sym at.place_is));
        }

    is_filed : IsFiled (entries_of (kept_of log) ++ entry_of (accept crash) ∷ []) crash filed
    is_filed = record { id = same_id; told = with_raw crash.raw refl tells } where
      with_raw : (o : Option Crash) → crash.raw ≡ o → IfSome o (Tells new) → IfSome o (IsFiledOf (entries_of (kept_of log) ++ entry_of (accept crash) ∷ []) filed)
      with_raw None is of = tt
      with_raw (Some raw) is of = filed_of raw is of

    all_filed : AreFiled (entries_of (kept_of longer)) (accepted_of longer) (ledger.crashes ++ filed ∷ [])
    all_filed =
        let more = AreFiled-more (entries_of (kept_of log)) (entry_of (accept crash) ∷ []) (accepted_of log) ledger.crashes holds.filed in
        subst (λ (es : List Entry). AreFiled es (accepted_of longer) (ledger.crashes ++ filed ∷ [])) (sym (entries-more log (accept crash)))
        (subst (λ (cs : List Accepted). AreFiled (entries_of (kept_of log) ++ entry_of (accept crash) ∷ []) cs (ledger.crashes ++ filed ∷ [])) (sym (accepted-more log (keep (accept crash))))
        (AreFiled-push (entries_of (kept_of log) ++ entry_of (accept crash) ∷ []) (accepted_of log) ledger.crashes crash filed more is_filed))

    one_more : length (ledger.crashes ++ filed ∷ []) ≡ length ledger.crashes + 1
    one_more = length-append ledger.crashes (filed ∷ [])

    row_before : (number : ℕ) → number < length ledger.crashes → HasRow basis longer (id_of grown number) (row_of number rows)
    row_before number less =
        subst (λ x. HasRow basis longer x (row_of number rows)) (sym (id_of-front ledger.crashes (filed ∷ []) ledger grown number refl refl less))
        (row_accept basis log legal crash (id_of ledger number) (row_of number rows) (was number less) (holds.rows_are.each number less))

    row_last : HasRow basis longer (id_of grown (length ledger.crashes)) (row_of (length ledger.crashes) rows)
    row_last =
        let none : row_of (length ledger.crashes) rows ≡ None = ap (λ (o : Option (ℕ × List Cell)). option_map (λ s. s.1) o) (no_row (length ledger.crashes) rows (all-weaker (λ s. s.0 < length ledger.crashes) (λ s. length ledger.crashes ≢ s.0) (λ s less. let low : s.0 < length ledger.crashes = less in let differs : length ledger.crashes ≢ s.0 = omega arith in differs) rows holds.rows_are.no_other)) in
        subst (λ x. HasRow basis longer x (row_of (length ledger.crashes) rows)) (sym (id_of-last ledger.crashes filed grown refl ∙ same_id))
        (subst (λ (o : Option (List Cell)). HasRow basis longer crash.id o) (sym none) (row_new basis log legal crash fresh))

    each_row : (number : ℕ) → number < length (ledger.crashes ++ filed ∷ []) → HasRow basis longer (id_of grown number) (row_of number rows)
    each_row number less =
        let under : number < length ledger.crashes + 1 = subst (λ n. number < n) one_more less in
        elim (cases_lt number (length ledger.crashes)) [
          | inl below ↦ row_before number below
          | inr above ↦ let last : length ledger.crashes ≡ number = omega arith in subst (λ n. HasRow basis longer (id_of grown n) (row_of n rows)) last row_last
        ]

    pub pushed_accept : Holds basis longer grown rows
    pushed_accept = record {
      events_are = events-pushed (E.Accepted filed.id) (keep (accept crash)) (ap E.Accepted (sym same_id));
      filed = all_filed;
      rows_are = record {
        rise = holds.rows_are.rise;
        each = each_row;
        no_other = all-weaker (λ s. s.0 < length ledger.crashes) (λ s. s.0 < length (ledger.crashes ++ filed ∷ [])) (λ s less. let n = one_more in let low : s.0 < length ledger.crashes = less in omega arith) rows holds.rows_are.no_other;
      };
    }

  -- ---- each change

  told_pending : (new : NewCrash) (raw : Option Crash) → IfSome raw (λ r. Tells new r × IsTrue basis.is_told) → IsSome raw → IsTrue basis.is_told
  told_pending new None tells some = absurd (true_is_not_false (sym some))
  told_pending new (Some raw) tells some = tells.1

  moved : (log' : List Change) (x ledger' : LedgerState) (y rows' : List (ℕ × List Cell)) → ledger' ≡ x → rows' ≡ y → Holds basis log' x y → Holds basis log' ledger' rows'
  moved log' x ledger' y rows' same_ledger same_rows here = subst (λ (l : LedgerState). Holds basis log' l rows') (sym same_ledger) (subst (λ (r : List (ℕ × List Cell)). Holds basis log' x r) (sym same_rows) here)

  pub pushed : (pending : Pending) (change : Kept) (place : ℕ) (ledger' : LedgerState) (rows' : List (ℕ × List Cell)) → Fits ledger pending → IsPending basis log ledger pending change
      → (IsTrue basis.is_told → IsPlaced basis log change place) → Pushes ledger rows pending place ledger' rows' → Holds basis (log ++ keep change ∷ []) ledger' rows'
  pushed (P.Accept new) (accept crash) place ledger' rows' fits is placed (filed, at, same_ledger, same_rows) =
      moved (log ++ keep (accept crash) ∷ []) (record (with_event ledger (E.Accepted filed.id)) { crashes = ledger.crashes ++ filed ∷ [] }) ledger' rows rows' same_ledger same_rows
      (pushed_accept new crash filed place at is.0 (IfSome_then crash.raw is.1 (λ raw both. both.0)) (ap (λ l. was_accepted l crash.id) (sym holds.events_are) ∙ (ap (λ x. was_accepted ledger.log x) (sym is.0) ∙ fits.1))
      (λ some. placed (told_pending new crash.raw is.1 some)))
  pushed (P.Ask number) (ask id) place ledger' rows' fits is placed (same_ledger, same_rows) =
      moved (log ++ keep (ask id) ∷ []) (with_event ledger (E.Asked id)) ledger' rows rows' (same_ledger ∙ ap (λ x. with_event ledger (E.Asked x)) is) same_rows (pushed_ask id)
  pushed (P.Withdraw number) (withdraw id) place ledger' rows' fits is placed (same_ledger, same_rows) =
      subst (λ x. Holds basis (log ++ keep (withdraw x) ∷ []) ledger' rows') is
      (moved (log ++ keep (withdraw (id_of ledger number)) ∷ []) (with_event ledger (E.Withdrawn (id_of ledger number))) ledger' (without_row number rows) rows' same_ledger same_rows (pushed_withdraw number fits.1))
  pushed _ _ place ledger' rows' fits is placed pushes = absurd is

-- ---- reports, one behind the other

pub idle_more : (basis : Basis) (log : List Change) (change : Change) (id : List ℕ) → due_after id (event_of basis change) (length (events basis log)) None ≡ None → is_due (events basis log) id ≡ false → is_due (events basis (log ++ change ∷ [])) id ≡ false
idle_more basis log change id still idle =
    ap (λ l. is_due l id) (events-more basis log change)
    ∙ (ap is_some (due_since-more (events basis log) (event_of basis change) id)
    ∙ ap is_some (ap (due_after id (event_of basis change) (length (events basis log))) (none_of (due_since (events basis log) id) idle) ∙ still))

pub none_anyway : (b : Bool) → ◌≡◌ {A = Option ℕ} (if b then None else None) None
none_anyway true = refl
none_anyway false = refl

-- what waits still waits behind other events of the same crashes, where none becomes due
module _ (basis : Basis) (log later : List Change) (idle : (id : List ℕ) → is_due (events basis log) id ≡ false → is_due (events basis later) id ≡ false) (ledger ledger' : LedgerState) (same : (number : ℕ) → id_of ledger' number ≡ id_of ledger number) where
  pub moved_reports : (numbers : List ℕ) (changes : List Kept) → AreReports basis log ledger numbers changes → AreReports basis later ledger' numbers changes
  moved_reports [] [] are = tt
  moved_reports (number ∷ numbers) (report made ∷ changes) (is, are) =
      ((same number ∙ is.0, is.1, ap not (idle made.id (not_true (is_due (events basis log) made.id) is.2))), moved_reports numbers changes are)
  moved_reports _ _ are = absurd are

  moved_one : (pending : Pending) (kept : Kept) → IsPending basis log ledger pending kept → IsPending basis later ledger' pending kept
  moved_one (P.Accept new) (accept crash) is = is
  moved_one (P.Ask number) (ask id) is = same number ∙ is
  moved_one (P.Withdraw number) (withdraw id) is = same number ∙ is
  moved_one _ _ is = absurd is

  pub moved_pending : (pending : Option Pending) (doubt : List Kept) → ArePending basis log ledger pending doubt → ArePending basis later ledger' pending doubt
  moved_pending None [] are = tt
  moved_pending (Some (P.Reports numbers)) (first ∷ more) are = moved_reports numbers.items (first ∷ more) are
  moved_pending (Some (P.Accepts news)) (first ∷ more) are = are
  moved_pending (Some (P.Accept new)) (kept ∷ []) are = moved_one (P.Accept new) kept are
  moved_pending (Some (P.Ask number)) (kept ∷ []) are = moved_one (P.Ask number) kept are
  moved_pending (Some (P.Withdraw number)) (kept ∷ []) are = moved_one (P.Withdraw number) kept are
  moved_pending _ _ are = absurd are

-- crashes that are held still are, behind an event that accepts and withdraws none
pub held_behind : (ledger : LedgerState) (event : Event) (room : ℕ) (numbers : List ℕ) → accepts event ≡ None → withdraws event ≡ None → AreHeld ledger numbers → AreHeld (with_event (record ledger { room = room }) event) numbers
held_behind ledger event room numbers no_accept no_withdrawal held =
    all-weaker (λ number. (number < length ledger.crashes) × IsTrue (is_held ledger.log (id_of ledger number))) (λ number. (number < length ledger.crashes) × IsTrue (is_held (ledger.log ++ event ∷ []) (id_of ledger number)))
    (λ number here. (here.0, held_plain ledger.log event (id_of ledger number) no_accept no_withdrawal ∙ here.1)) numbers held

pub pushed_reports : (basis : Basis) (numbers : List ℕ) (changes : List Kept) (log : List Change) (ledger : LedgerState) (rows : List (ℕ × List Cell)) → IsLegal basis (log ++ map keep changes) → Holds basis log ledger rows
    → AreReports basis log ledger numbers changes → Holds basis (log ++ map keep changes) (with_reports ledger numbers) rows
pushed_reports basis [] [] log ledger rows legal holds are = subst (λ (l : List Change). Holds basis l ledger rows) (sym (append-nil log)) holds
pushed_reports basis (number ∷ numbers) (report made ∷ changes) log ledger rows legal holds (is, are) =
    let event = E.Reported (id_of ledger number) true in
    let one = log ++ keep (report made) ∷ [] in
    let first : Holds basis one (with_event ledger event) rows =
    pushed_report basis log ledger rows (legal-front basis log (map keep (report made ∷ changes)) legal) holds made (id_of ledger number) is.0 is.1 (not_true (is_due (events basis log) made.id) is.2) in
    let all : IsLegal basis (one ++ map keep changes) = subst (IsLegal basis) (sym (append_assoc log (keep (report made) ∷ []) (map keep changes))) legal in
    let still = λ (id : List ℕ) (idle : is_due (events basis log) id ≡ false). idle_more basis log (keep (report made)) id (none_anyway (bytes_eq made.id id && is_own basis made.digest)) idle in
    subst (λ (l : List Change). Holds basis l (with_reports (with_event ledger event) numbers) rows) (append_assoc log (keep (report made) ∷ []) (map keep changes))
    (pushed_reports basis numbers changes one (with_event ledger event) rows all first (moved_reports basis log one still ledger (with_event ledger event) (λ n. refl) numbers changes are))
pushed_reports basis _ _ log ledger rows legal holds are = absurd are

-- ---- new crashes, one behind the other

size_told : (basis : Basis) (new : NewCrash) (id : List ℕ) (raw : Option Crash) → IfSome raw (λ r. Tells new r × IsTrue basis.is_told) → IsSome raw → new.size ≡ length (entry_text (entry_of (accept record { id = id; raw = raw })))
size_told basis new id None tells some = absurd (true_is_not_false (sym some))
size_told basis new id (Some raw) tells some = tells.0.size ∙ sym (length-entry_text (entry_of (accept record { id = id; raw = Some raw })))

pub pushed_new : (basis : Basis) (news : List NewCrash) (changes : List Kept) (log : List Change) (ledger : LedgerState) (rows : List (ℕ × List Cell)) (place : ℕ) (ledger' : LedgerState) (end : ℕ) → IsLegal basis (log ++ map keep changes)
    → Holds basis log ledger rows → AreNew (accepted_ids ledger.log) news → AreAccepted basis news changes → (IsTrue basis.is_told → ArePlaced basis log changes place) → PushesNew ledger news place ledger' end
    → Holds basis (log ++ map keep changes) ledger' rows
pushed_new basis [] [] log ledger rows place ledger' end legal holds new are placed (same, same_end) =
    subst (λ (l : List Change). Holds basis l ledger' rows) (sym (append-nil log)) (subst (λ (l : LedgerState). Holds basis log l rows) (sym same) holds)
pushed_new basis (new ∷ news) (accept crash ∷ changes) log ledger rows place ledger' end legal holds (fresh, others) (is, are) placed (filed, at, pushes) =
    let one = log ++ keep (accept crash) ∷ [] in
    let before = legal-front basis log (map keep (accept crash ∷ changes)) legal in
    let first : Holds basis one (record (with_event ledger (E.Accepted filed.id)) { crashes = ledger.crashes ++ filed ∷ [] }) rows =
    pushed_accept basis log ledger rows before holds new crash filed place at is.0 (IfSome_then crash.raw is.1 (λ raw both. both.0)) (ap (λ l. was_accepted l crash.id) (sym holds.events_are) ∙ (ap (λ x. was_accepted ledger.log x) (sym is.0) ∙ fresh))
    (λ some. placed_first basis log (accept crash) changes place (placed (told_pending basis log ledger rows before holds new crash.raw is.1 some))) in
    let all : IsLegal basis (one ++ map keep changes) = subst (IsLegal basis) (sym (append_assoc log (keep (accept crash) ∷ []) (map keep changes))) legal in
    let ids : accepted_ids (ledger.log ++ E.Accepted filed.id ∷ []) ≡ accepted_ids ledger.log ++ new.id ∷ [] =
    accepted_ids-more ledger.log (E.Accepted filed.id) ∙ ap (λ x. accepted_ids ledger.log ++ x ∷ []) at.id in
    subst (λ (l : List Change). Holds basis l ledger' rows) (append_assoc log (keep (accept crash) ∷ []) (map keep changes))
    (pushed_new basis news changes one (record (with_event ledger (E.Accepted filed.id)) { crashes = ledger.crashes ++ filed ∷ [] }) rows (min (place + new.size) (2 ^ 64 - 1)) ledger' end all first
    (subst (λ (xs : List (List ℕ)). AreNew xs news) (sym ids) others) are
    (λ is_told. placed_next basis log (accept crash) changes place (placed is_told) new.size (size_told basis new crash.id crash.raw is.1 (is.2 is_told))) pushes)
pushed_new basis _ _ log ledger rows place ledger' end legal holds fresh are placed pushes = absurd are

-- ---- all changes that waited

pub pushed_all : (basis : Basis) (log : List Change) (ledger : LedgerState) (rows : List (ℕ × List Cell)) → IsLegal basis log → Holds basis log ledger rows → (pending : Pending) (changes : List Kept) (place : ℕ) (ledger' : LedgerState) (rows' : List (ℕ × List Cell))
    → IsLegal basis (log ++ map keep changes) → Fits ledger pending → ArePending basis log ledger (Some pending) changes → (IsTrue basis.is_told → ArePlaced basis log changes place)
    → Pushes ledger rows pending place ledger' rows' → Holds basis (log ++ map keep changes) ledger' rows'
pushed_all basis log ledger rows legal holds (P.Reports numbers) (first ∷ more) place ledger' rows' next fits are placed (same_ledger, same_rows) =
    moved basis log ledger rows legal holds (log ++ map keep (first ∷ more)) (with_reports ledger numbers.items) ledger' rows rows' same_ledger same_rows (pushed_reports basis numbers.items (first ∷ more) log ledger rows next holds are)
pushed_all basis log ledger rows legal holds (P.Accepts news) (first ∷ more) place ledger' rows' next fits are placed ((end, pushes), same_rows) =
    moved basis log ledger rows legal holds (log ++ map keep (first ∷ more)) ledger' ledger' rows rows' refl same_rows (pushed_new basis news.items (first ∷ more) log ledger rows place ledger' end next holds fits.3 are placed pushes)
pushed_all basis log ledger rows legal holds (P.Accept new) (change ∷ []) place ledger' rows' next fits are placed pushes = pushed basis log ledger rows legal holds (P.Accept new) change place ledger' rows' fits are (λ is_told. placed_first basis log change [] place (placed is_told)) pushes
pushed_all basis log ledger rows legal holds (P.Ask number) (change ∷ []) place ledger' rows' next fits are placed pushes = pushed basis log ledger rows legal holds (P.Ask number) change place ledger' rows' fits are (λ is_told. placed_first basis log change [] place (placed is_told)) pushes
pushed_all basis log ledger rows legal holds (P.Withdraw number) (change ∷ []) place ledger' rows' next fits are placed pushes = pushed basis log ledger rows legal holds (P.Withdraw number) change place ledger' rows' fits are (λ is_told. placed_first basis log change [] place (placed is_told)) pushes
pushed_all basis log ledger rows legal holds _ _ place ledger' rows' next fits are placed pushes = absurd are
