-- What is gathered of reports that are to be written together, number by number.
use Rattle.std.proofs.Common.{◌≡◌, ◌≢◌, ℕ, ◌+◌, ◌<◌, ◌≤◌, Bool, true, false, not, IsTrue, List, [], ◌∷◌, ◌++◌, length, Option, Some, None, Result, Ok, Err, OnOk, OnErr, Vec, inl, refl, sym, ◌∙◌, ap, subst, arith, length-append}
use Rattle.std.specs.declared.alloc.Global.{Global}
use Rattle.soc_book.proofs.Words.{slice_get, if◌then◌else◌, option_and_then, option_map, option_map_or, append-nil, map-append, Cell, DiskTold, IsDisk, GoesOn-none, JournalState, length-entry_text, length-entries_text-append, length-sealed_all, entries_text-one, place_behind-append, Entry, entry_text, entries_text, place_behind, sealed_all, Filed, Event, is_due, accepted_ids, is_held, LedgerState, id_of, AreDistinct, row_at, Limits, Refusal, Basis, RowsTell, IsPartOf, is_passed_over, is_to_keep, report_of, to_append, Change, Kept, KeptReport, report, keep, event_of, events, is_own, IsLegal, State, Survives, settled, entry_of, entries_of, kept_of, events-more, HasGathered, IsBatch, IsMost, IsSameBatch, KeepsBatch, KeepsOn, LeavesSome, MakesEntry, MayMakeEntry, is_wanted, rest_ids, with_all, AreAppended, product_at, Pending, AreHeld, ArePending, AreReports, Holds, IsReportOf, Stands, most_together, with_reports, all_push, and_parts}
use Rattle.soc_ledger.specs.declared.event.Event.TheVariants as E
use Rattle.soc_desk.specs.declared.desk.Refusal.TheVariants as F
use Rattle.soc_book.specs.declared.book.Change.TheVariants as P
use Rattle.soc_book.specs.declared.keep.Batch.{Batch}
use Rattle.soc_book.proofs.Changes.{entries-all}
use Rattle.soc_book.proofs.Keepings.{distinct_here, entry_is, id_there, idle_here, keeps_append, keeps_none, made, may_make, no_entry, not_over, own_is, part_skips, report_legal, report_told, with_both}
use Rattle.soc_book.proofs.Pushing.{moved_reports, pushed_reports}
use Rattle.soc_book.proofs.Rests.{ids_differ, rest_reported, rest_skips, rest_takes, wanted_same}
use Rattle.soc_book.proofs.Standing.{allowed_in, reports-crashes}

-- nothing yet
none_gathered : (basis : Basis) (log : List Change) (ledger : LedgerState) (number : ℕ) → IsLegal basis log → HasGathered basis log ledger number number [] [] []
none_gathered basis log ledger number legal = record {
  are = tt;
  entries_are = refl;
  legal = subst (IsLegal basis) (sym (append-nil log)) legal;
  count = refl;
  kept = keeps_none basis log number;
  same = λ n id later at. ap (λ (l : List Change). is_wanted (events basis l) id) (append-nil log);
}

pub gathered_none : (basis : Basis) (log : List Change) (ledger : LedgerState) (number : ℕ) (batch : Batch) → IsLegal basis log → batch.next ≡ number → batch.numbers.items ≡ [] → batch.entries.items ≡ []
    → HasGathered basis log ledger number batch.next batch.numbers.items batch.entries.items []
gathered_none basis log ledger number batch legal next numbers entries =
    subst (λ n. HasGathered basis log ledger number n batch.numbers.items batch.entries.items []) (sym next)
    (subst (λ (ns : List ℕ). HasGathered basis log ledger number number ns batch.entries.items []) (sym numbers)
    (subst (λ (es : List Entry). HasGathered basis log ledger number number [] es []) (sym entries) (none_gathered basis log ledger number legal)))

some_behind : {A : Type 0} (xs : List A) (y : A) (ys : List A) → xs ++ (y ∷ ys) ≡ [] → ⊥
some_behind [] y ys none = cc
some_behind (x ∷ xs) y ys none = cc

are_push : (basis : Basis) (log : List Change) (ledger : LedgerState) (numbers : List ℕ) (reports : List Kept) (number : ℕ) (own : KeptReport) → AreReports basis log ledger numbers reports → IsReportOf basis log ledger number own
    → AreReports basis log ledger (numbers ++ number ∷ []) (reports ++ report own ∷ [])
are_push basis log ledger [] [] number own are is = (is, tt)
are_push basis log ledger (n ∷ numbers) (report other ∷ reports) number own (one, are) is = (one, are_push basis log ledger numbers reports number own are is)
are_push basis log ledger _ _ number own are is = absurd are

module _ (basis : Basis) (log : List Change) (ledger : LedgerState) (rows : List (ℕ × List Cell)) (legal : IsLegal basis log) (holds : Holds basis log ledger rows) (digest : List ℕ) (long : length digest ≡ 32) (digest_is : basis.digest ≡ Some digest) (tell : RowsTell basis)
    (from to : ℕ) (numbers : List ℕ) (entries : List Entry) (reports : List Kept) (gathered : HasGathered basis log ledger from to numbers entries reports) (within : to < length ledger.crashes) where
  abbrev now : List Change
  now = with_all log reports

  abbrev ev_now : List Event
  ev_now = events basis now

  -- the tables as they will be once those are written
  abbrev later : LedgerState
  later = with_reports ledger numbers

  pub holds_later : Holds basis now later rows
  holds_later = pushed_reports basis numbers reports log ledger rows gathered.legal holds gathered.are

  pub within_later : to < length later.crashes
  within_later = subst (λ (crashes : List Filed). to < length crashes) (sym (reports-crashes numbers ledger)) within

  abbrev id : List ℕ
  id = id_of ledger to

  id_later : id_of later to ≡ id
  id_later = ap (λ (crashes : List Filed). option_map_or (λ (f : Filed). f.id) (slice_get crashes to) []) (reports-crashes numbers ledger)

  product_later : product_at later to ≡ product_at ledger to
  product_later = ap (λ (crashes : List Filed). option_and_then (λ (f : Filed). f.product) (slice_get crashes to)) (reports-crashes numbers ledger)

  at_log : slice_get (accepted_ids (events basis log)) to ≡ Some id
  at_log = id_there basis ledger rows log legal holds to within

  at_now : slice_get (accepted_ids ev_now) to ≡ Some id
  at_now = id_there basis later rows now gathered.legal holds_later to within_later ∙ ap (λ x. Some x) id_later

  wanted_now : (b : Bool) → is_wanted ledger.log id ≡ b → is_wanted ev_now id ≡ b
  wanted_now b is = gathered.same to id (omega arith) at_log ∙ (ap (λ (l : List Event). is_wanted l id) (sym holds.events_are) ∙ is)

  abbrev rest : List (List ℕ)
  rest = rest_ids ev_now (to + 1)

  abbrev following : List Kept
  following = to_append basis now rest

  later_same : (n : ℕ) (other : List ℕ) → to + 1 ≤ n → slice_get (accepted_ids (events basis log)) n ≡ Some other → is_wanted ev_now other ≡ is_wanted (events basis log) other
  later_same n other less at = gathered.same n other (omega (arith, less)) at

  -- nothing of it is gathered
  skips : ((more : List (List ℕ)) → IsPartOf more rest → IsPartOf more (rest_ids ev_now to)) → (IsTrue basis.is_told → to_append basis now (rest_ids ev_now to) ≡ following) → HasGathered basis log ledger from (to + 1) numbers entries reports
  skips part keeps = record {
    are = gathered.are;
    entries_are = gathered.entries_are;
    legal = gathered.legal;
    count = gathered.count;
    kept = let k = gathered.kept in record {
      ids = k.ids;
      events_are = k.events_are;
      count = k.count;
      among = λ more later. k.among more (part more later);
      keeps = λ is_told. k.keeps is_told ∙ ap (λ (l : List Kept). reports ++ l) (keeps is_told);
    };
    same = later_same;
  }

  -- its report isn't to be kept
  pub not_gathered : is_wanted ledger.log id ≡ false → HasGathered basis log ledger from (to + 1) numbers entries reports
  not_gathered is =
      let none = rest_skips ev_now to id at_now (wanted_now false is) in
      skips (λ more later. subst (λ ids. IsPartOf more ids) (sym none) later) (λ is_told. ap (λ ids. to_append basis now ids) none)

  module _ (wanted : is_wanted ledger.log id ≡ true) where
    wanted_here : is_wanted ev_now id ≡ true
    wanted_here = wanted_now true wanted

    pub wanted_later : is_wanted later.log (id_of later to) ≡ true
    wanted_later = ap (λ (l : List Event). is_wanted l (id_of later to)) holds_later.events_are ∙ (ap (λ x. is_wanted ev_now x) id_later ∙ wanted_here)

    abbrev own : KeptReport
    own = made basis later rows now gathered.legal holds_later to within_later wanted_later digest long digest_is tell

    report_here : IsTrue basis.is_told → report_of basis now id ≡ Some own
    report_here is_told =
        ap (λ x. report_of basis now x) (sym id_later) ∙ report_told basis later rows now gathered.legal holds_later to within_later wanted_later digest long digest_is tell is_told

    takes : IsTrue basis.is_told → (over : Bool) → is_passed_over basis now own ≡ over → to_append basis now (rest_ids ev_now to) ≡ (if over then following else report own ∷ to_append basis (now ++ keep (report own) ∷ []) rest)
    takes is_told over over_is =
        ap (λ ids. to_append basis now ids) (rest_takes ev_now to id at_now wanted_here)
        ∙ (ap (λ (o : Option KeptReport). option_map_or (λ m. if is_passed_over basis now m then following else report m ∷ to_append basis (now ++ keep (report m) ∷ []) rest) o following) (report_here is_told)
        ∙ ap (λ b. if b then following else report own ∷ to_append basis (now ++ keep (report own) ∷ []) rest) over_is)

    -- it is passed over
    passes_over : (IsTrue basis.is_told → is_passed_over basis now own ≡ true) → HasGathered basis log ledger from (to + 1) numbers entries reports
    passes_over over = skips (λ more later. subst (λ ids. IsPartOf more ids) (sym (rest_takes ev_now to id at_now wanted_here)) (part_skips id more rest later)) (λ is_told. takes is_told true (over is_told))

    -- its report, which isn't passed over, is left
    leaves : (IsTrue basis.is_told → is_passed_over basis now own ≡ false) → LeavesSome basis log from
    leaves not_over is_told none =
        let is : reports ++ (report own ∷ to_append basis (now ++ keep (report own) ∷ []) rest) ≡ [] =
        ap (λ (k : List Kept). reports ++ k) (sym (takes is_told false (not_over is_told))) ∙ (sym (gathered.kept.keeps is_told) ∙ none) in
        some_behind reports (report own) (to_append basis (now ++ keep (report own) ∷ []) rest) is

    module _ (gate limit bytes most : ℕ) (gate_is : IsTrue basis.is_told → gate ≡ place_behind (entries_of (kept_of log))) (limit_is : limit ≡ basis.journal_bytes) (bytes_are : bytes ≡ length (entries_text entries)) (is_most : IsMost (gate + bytes) limit most) where
      at_most : IsTrue basis.is_told → IsMost (place_behind (entries_of (kept_of now))) basis.journal_bytes most
      at_most is_told =
          let behind : gate + bytes ≡ place_behind (entries_of (kept_of now)) =
          omega (arith, gate_is is_told, bytes_are, ap (λ (es : List Entry). place_behind es) (entries-all log reports), place_behind-append (entries_of (kept_of log)) (entries_of reports), ap (λ (es : List Entry). length (entries_text es)) gathered.entries_are) in
          subst (λ n. IsMost n basis.journal_bytes most) behind (subst (λ n. IsMost (gate + bytes) n most) limit_is is_most)

      abbrev Moved : Option Entry → Type 0
      Moved made_entry = MakesEntry (option_map (λ s. s.1) (row_at to rows)) (id_of later to) (product_at later to) digest most made_entry

      moved_entry : (made_entry : Option Entry) → MakesEntry (option_map (λ s. s.1) (row_at to rows)) id (product_at ledger to) digest most made_entry → Moved made_entry
      moved_entry made_entry makes =
          subst (λ x. MakesEntry (option_map (λ s. s.1) (row_at to rows)) x (product_at later to) digest most made_entry) (sym id_later)
          (subst (λ (p : Option (List ℕ)). MakesEntry (option_map (λ s. s.1) (row_at to rows)) id p digest most made_entry) (sym product_later) makes)

      moved_may : MayMakeEntry (option_map (λ s. s.1) (row_at to rows)) id (product_at ledger to) most → MayMakeEntry (option_map (λ s. s.1) (row_at to rows)) (id_of later to) (product_at later to) most
      moved_may may =
          subst (λ x. MayMakeEntry (option_map (λ s. s.1) (row_at to rows)) x (product_at later to) most) (sym id_later)
          (subst (λ (p : Option (List ℕ)). MayMakeEntry (option_map (λ s. s.1) (row_at to rows)) id p most) (sym product_later) may)

      pub without_entry : MakesEntry (option_map (λ s. s.1) (row_at to rows)) id (product_at ledger to) digest most None → HasGathered basis log ledger from (to + 1) numbers entries reports
      without_entry makes =
          passes_over (no_entry basis later rows now gathered.legal holds_later to within_later wanted_later digest long digest_is tell most at_most (moved_entry None makes))

      -- memory for its entry ran out
      pub unmade_left : MayMakeEntry (option_map (λ s. s.1) (row_at to rows)) id (product_at ledger to) most → LeavesSome basis log from
      unmade_left may = leaves (may_make basis later rows now gathered.legal holds_later to within_later wanted_later digest long digest_is tell most at_most (moved_may may))

      module _ (entry : Entry) (makes : MakesEntry (option_map (λ s. s.1) (row_at to rows)) id (product_at ledger to) digest most (Some entry)) where
        abbrev more_entries : List Entry
        more_entries = entries ++ entry ∷ []

        same_entry : entry ≡ entry_of (report own)
        same_entry = entry_is basis later rows now gathered.legal holds_later to within_later wanted_later digest long digest_is tell most at_most entry (moved_entry (Some entry) makes)

        not_passed : IsTrue basis.is_told → is_passed_over basis now own ≡ false
        not_passed = not_over basis later rows now gathered.legal holds_later to within_later wanted_later digest long digest_is tell most at_most entry (moved_entry (Some entry) makes)

        -- memory to add it ran out
        pub unadded_left : LeavesSome basis log from
        unadded_left = leaves not_passed

        -- it is gathered
        abbrev now' : List Change
        now' = now ++ keep (report own) ∷ []

        event_is : event_of basis (keep (report own)) ≡ E.Reported id true
        event_is =
            ap (λ x. E.Reported x (is_own basis own.digest)) id_later
            ∙ ap (λ b. E.Reported id b) (own_is basis later rows now gathered.legal holds_later to within_later wanted_later digest long digest_is tell)

        events_more : events basis now' ≡ ev_now ++ E.Reported id true ∷ []
        events_more = events-more basis now (keep (report own)) ∙ ap (λ (e : Event). ev_now ++ e ∷ []) event_is

        distinct_now : AreDistinct (accepted_ids ev_now)
        distinct_now = distinct_here basis later rows now gathered.legal holds_later

        rest_more : rest_ids (events basis now') (to + 1) ≡ rest
        rest_more = ap (λ (l : List Event). rest_ids l (to + 1)) events_more ∙ rest_reported ev_now to id at_now distinct_now

        keeps_one : KeepsOn basis now to (to + 1) (report own ∷ [])
        keeps_one = record {
          ids = id ∷ [];
          events_are = ap (λ (e : Event). e ∷ []) event_is;
          count = refl;
          among = λ more part. subst (λ ids. IsPartOf (id ∷ more) ids) (sym (rest_takes ev_now to id at_now wanted_here)) (inl (refl, subst (λ ids. IsPartOf more ids) rest_more part));
          keeps = λ is_told. takes is_told false (not_passed is_told) ∙ ap (λ ids. report own ∷ to_append basis now' ids) (sym rest_more);
        }

        own_of : IsReportOf basis log ledger to own
        own_of = (sym id_later, own_is basis later rows now gathered.legal holds_later to within_later wanted_later digest long digest_is tell, subst (λ x. IsTrue (not (is_due_at x))) (sym id_later) (idle_here basis ledger rows log legal holds to within wanted)) where
          is_due_at : List ℕ → Bool
          is_due_at x = is_due (events basis log) x

        pub gathers : HasGathered basis log ledger from (to + 1) (numbers ++ to ∷ []) more_entries (reports ++ report own ∷ [])
        gathers = record {
          are = are_push basis log ledger numbers reports to own gathered.are own_of;
          entries_are = ap (λ (es : List Entry). es ++ entry ∷ []) gathered.entries_are ∙ (ap (λ (e : Entry). entries_of reports ++ e ∷ []) same_entry ∙ sym (map-append entry_of reports (report own ∷ [])));
          legal = subst (IsLegal basis) (sym (with_both log reports (report own ∷ [])))
              (report_legal basis later rows now gathered.legal holds_later to within_later wanted_later digest long digest_is tell most at_most entry (moved_entry (Some entry) makes));
          count = let count = gathered.count in omega (arith, count, length-append reports (report own ∷ []), length-append numbers (to ∷ []));
          kept = keeps_append gathered.kept keeps_one;
          same = λ n other less at.
              ap (λ (l : List Change). is_wanted (events basis l) other) (with_both log reports (report own ∷ [])) ∙ (ap (λ (l : List Event). is_wanted l other) events_more
              ∙ (wanted_same ev_now to id at_now distinct_now other (ids_differ (accepted_ids (events basis log)) to n id other (distinct_here basis ledger rows log legal holds) at_log at (omega (arith, less)))
              ∙ later_same n other less at));
        }

-- ---- a batch that is written

pub no_reports : (basis : Basis) (log : List Change) (ledger : LedgerState) (numbers : List ℕ) (reports : List Kept) → length numbers ≡ 0 → AreReports basis log ledger numbers reports → reports ≡ []
no_reports basis log ledger [] [] none are = refl
no_reports basis log ledger [] (x ∷ reports) none are = absurd are
no_reports basis log ledger (n ∷ numbers) reports none are = absurd (omega (arith, none))

pub reports_there : (basis : Basis) (log : List Change) (ledger : LedgerState) (numbers : List ℕ) (reports : List Kept) → (length numbers ≡ 0 → ⊥) → AreReports basis log ledger numbers reports → reports ≢ []
reports_there basis log ledger [] reports some are none = some refl
reports_there basis log ledger (n ∷ numbers) [] some are none = are
reports_there basis log ledger (n ∷ numbers) (x ∷ reports) some are none = cc

-- they wait, where there are some
pub reports_wait : (basis : Basis) (log : List Change) (ledger : LedgerState) (numbers : Vec ℕ Global) (reports : List Kept) → reports ≢ [] → AreReports basis log ledger numbers.items reports → ArePending basis log ledger (Some (P.Reports numbers)) reports
reports_wait basis log ledger numbers [] some are = absurd (some refl)
reports_wait basis log ledger numbers (first ∷ more) some are = are

-- more room in the ledger changes nothing
pub reports_roomy : (basis : Basis) (log : List Change) (ledger ledger' : LedgerState) (numbers : List ℕ) (reports : List Kept) → ledger' ≡ record ledger { room = ledger'.room } → AreReports basis log ledger numbers reports → AreReports basis log ledger' numbers reports
reports_roomy basis log ledger ledger' numbers reports same are =
    moved_reports basis log log (λ id idle. idle) ledger ledger' (λ n. ap (λ (l : LedgerState). id_of l n) same) numbers reports are

module _ {basis : Basis} {limits : Limits} {ledger : LedgerState} {rows : List (ℕ × List Cell)} {pending : Option Pending} {journal : JournalState} {disk : DiskTold} {log : List Change}
    (stands : Stands basis limits ledger rows pending journal disk (settled log)) (sound : IsDisk disk) (reports : List Kept) where
  quiet : IsTrue basis.is_told → Survives disk disk (settled log) (settled log)
  quiet is_told = record { each = λ image left. inl (allowed_in stands is_told image (sound.only_now image left)) }

  pub batch_empty : reports ≡ [] → KeepsBatch basis log disk reports (Ok 0) (settled log) disk
  batch_empty none = record {
    ends = ap settled (sym (append-nil log) ∙ ap (λ (k : List Kept). with_all log k) (sym none));
    goes_on = GoesOn-none disk sound;
    survives = quiet;
  }

  pub batch_unmade : reports ≢ [] → KeepsBatch basis log disk reports (Err F.NoMemory) (settled log) disk
  batch_unmade some = record { ends = (some, refl); goes_on = GoesOn-none disk sound; survives = quiet }

pub batch_done : {basis : Basis} {log : List Change} {disk disk' : DiskTold} {reports : List Kept} {after : State} (count : ℕ) → AreAppended basis log disk reports (Ok tt) after disk' → KeepsBatch basis log disk reports (Ok count) after disk'
batch_done count did = record { ends = did.ends.0; goes_on = did.goes_on; survives = did.survives }

pub batch_fails : {basis : Basis} {log : List Change} {disk disk' : DiskTold} {reports : List Kept} {after : State} (refusal : Refusal) → reports ≢ [] → (refusal ≡ F.JournalFull → ⊥) → AreAppended basis log disk reports (Err refusal) after disk' → KeepsBatch basis log disk reports (Err refusal) after disk'
batch_fails F.StoreFault some room did = record { ends = (some, did.ends.0, did.ends.1); goes_on = did.goes_on; survives = did.survives }
batch_fails F.JournalFull some room did = absurd (room refl)
batch_fails _ some room did = absurd did.ends

-- ---- what a book owes a batch

pub batch_none : (ledger : LedgerState) (journal : JournalState) (batch : Batch) → batch.entries.items ≡ [] → batch.numbers.items ≡ [] → batch.bytes ≡ 0 → IsBatch ledger journal batch
batch_none ledger journal batch entries numbers bytes = record {
  bytes_are = bytes ∙ ap (λ (es : List Entry). length (entries_text es)) (sym entries);
  same_count = ap (λ (es : List Entry). length es) entries ∙ ap (λ (ns : List ℕ). length ns) (sym numbers);
  few = omega (arith, ap (λ (ns : List ℕ). length ns) numbers);
  held = subst (λ (ns : List ℕ). AreHeld ledger ns) (sym numbers) tt;
  room = λ some. absurd (omega (arith, some, ap (λ (es : List Entry). length es) entries));
}

-- nothing was added
pub batch_same : (ledger : LedgerState) (journal : JournalState) (before after : Batch) → IsSameBatch before after → IsBatch ledger journal before → IsBatch ledger journal after
batch_same ledger journal before after same is = record {
  bytes_are = same.bytes ∙ (is.bytes_are ∙ ap (λ (es : List Entry). length (entries_text es)) (sym same.entries));
  same_count = ap (λ (es : List Entry). length es) same.entries ∙ (is.same_count ∙ ap (λ (ns : List ℕ). length ns) (sym same.numbers));
  few = subst (λ (ns : List ℕ). length ns ≤ most_together) (sym same.numbers) is.few;
  held = subst (λ (ns : List ℕ). AreHeld ledger ns) (sym same.numbers) is.held;
  room = subst (λ (es : List Entry). 0 < length es → journal.gate + length (sealed_all es) ≤ journal.limit) (sym same.entries) is.room;
}

held_push : (ledger : LedgerState) (numbers : List ℕ) (number : ℕ) → AreHeld ledger numbers → number < length ledger.crashes → IsTrue (is_held ledger.log (id_of ledger number)) → AreHeld ledger (numbers ++ number ∷ [])
held_push ledger numbers number held within one = all_push (λ number. (number < length ledger.crashes) × IsTrue (is_held ledger.log (id_of ledger number))) numbers number held (within, one)

entry_sized : (row : Option (List Cell)) (named : List ℕ) (product : Option (List ℕ)) (digest : List ℕ) (most : ℕ) (entry : Entry) → MakesEntry row named product digest most (Some entry) → (0 < length entry.body) × (length entry.body ≤ most)
entry_sized None named product digest most entry makes = absurd (cc)
entry_sized (Some row) named product digest most entry makes = let sized = makes.sized in let fits = makes.fits in (omega (arith, sized), omega (arith, sized, fits))

-- its report was added
batch_pushed : (ledger : LedgerState) (journal : JournalState) (before after : Batch) (number : ℕ) (row : Option (List Cell)) (named : List ℕ) (product : Option (List ℕ)) (digest : List ℕ) (most : ℕ) (entry : Entry) → MakesEntry row named product digest most (Some entry) → IsMost (journal.gate + before.bytes) journal.limit most
    → number < length ledger.crashes → is_wanted ledger.log (id_of ledger number) ≡ true → length before.numbers.items < most_together
    → after.entries.items ≡ before.entries.items ++ entry ∷ [] → after.numbers.items ≡ before.numbers.items ++ number ∷ [] → after.bytes ≡ before.bytes + length (entry_text entry) → IsBatch ledger journal before → IsBatch ledger journal after
batch_pushed ledger journal before after number row named product digest most entry makes is_most within wanted few entries numbers bytes is =
    let text = ap (λ (es : List Entry). length (entries_text es)) entries in
    let more = length-entries_text-append before.entries.items (entry ∷ []) in
    let one = ap (λ (x : List ℕ). length x) (entries_text-one entry) in
    let counted = is.bytes_are in
    let same = is.same_count in
    let sized = entry_sized row named product digest most entry makes in
    let sized0 = sized.0 in
    let sized1 = sized.1 in
    let room = is_most.room (omega (arith, sized0, sized1)) in
    record {
      bytes_are = omega (arith, bytes, counted, text, more, one);
      same_count = omega (arith, same, ap (λ (es : List Entry). length es) entries, ap (λ (ns : List ℕ). length ns) numbers, length-append before.entries.items (entry ∷ []), length-append before.numbers.items (number ∷ []));
      few = omega (arith, few, ap (λ (ns : List ℕ). length ns) numbers, length-append before.numbers.items (number ∷ []));
      held = subst (λ ns. AreHeld ledger ns) (sym numbers) (held_push ledger before.numbers.items number is.held within (and_parts (is_held ledger.log (id_of ledger number)) (is_to_keep ledger.log (id_of ledger number)) wanted).0);
      room = λ some. omega (arith, room, sized1, counted, text, more, one, length-sealed_all after.entries.items, length-entry_text entry);
    }

-- or it couldn't be
pub batch_added : {E : Type 0} (ledger : LedgerState) (journal : JournalState) (before after : Batch) (number : ℕ) (row : Option (List Cell)) (named : List ℕ) (product : Option (List ℕ)) (digest : List ℕ) (most : ℕ) (entry : Entry) → MakesEntry row named product digest most (Some entry) → IsMost (journal.gate + before.bytes) journal.limit most
    → number < length ledger.crashes → is_wanted ledger.log (id_of ledger number) ≡ true → length before.numbers.items < most_together → (answer : Result (Unit {0}) E)
    → OnOk answer (after.entries.items ≡ before.entries.items ++ entry ∷ []) → OnOk answer (after.numbers.items ≡ before.numbers.items ++ number ∷ []) → OnOk answer (after.bytes ≡ before.bytes + length (entry_text entry)) → OnErr answer (IsSameBatch before after)
    → IsBatch ledger journal before → IsBatch ledger journal after
batch_added ledger journal before after number row named product digest most entry makes is_most within wanted few (Ok done) entries numbers bytes same is =
    batch_pushed ledger journal before after number row named product digest most entry makes is_most within wanted few entries numbers bytes is
batch_added ledger journal before after number row named product digest most entry makes is_most within wanted few (Err error) entries numbers bytes same is = batch_same ledger journal before after same is
