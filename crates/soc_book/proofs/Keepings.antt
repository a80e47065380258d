-- What keeping reports does, from what keeping one does.
use Rattle.std.proofs.Common.{◌≡◌, ◌≢◌, ℕ, ◌+◌, ◌<◌, ◌≤◌, Bool, true, false, not, ◌&&◌, ◌||◌, IsTrue, List, [], ◌∷◌, ◌++◌, length, map, filter, Option, Some, None, IfSome, IsSomeAnd, Result, Ok, Err, inl, inr, ◌⊎◌, ⊎_elim, refl, sym, ◌∙◌, ap, subst, arith, append_assoc, length-append}
use Rattle.soc_book.proofs.Words.{bytes_eq, is_some, nat_le, nat_lt, slice_get, if◌then◌else◌, option_and_then, option_map, option_map_or, lt-ltb, le-ltb, leb_tells, IfSome_then, slice_get-map, filter_map-append, append-nil, length-map, map-append, or_second, and_parts, none_long, Crash, id_len, Cell, TellsCrash, product_of, row_text, DiskTold, IsDisk, GoesOn, DiskFailed, LeavesOnly, Looks, GoesOn-none, GoesOn-append, LeavesOnly-append, LeavesOnly-weaker, Entry, beside_body, max_body, place_behind, JournalState, Filed, Event, is_due, accepted_ids, held_ids, is_held, has_report, is_kept, LedgerState, id_of, AreDistinct, itself, true_is_not_false, distinct_ids, row_at, Limits, Refusal, Reply, Basis, RowsTell, BehindDoubt, EndsReports, IsPartOf, KeepAllows, KeepGrows, KeepsFirst, Reports, StandsBetween, ids_to_keep, is_passed_over, is_to_keep, kept_with_doubt, report_of, to_append, to_keep_of, Accepted, Change, Kept, KeptReport, report, keep, accepted_of, event_of, events, is_own, raw_of, row_in, IsLegal, State, doubted, IsLegalState, Settles, settled, Survives, Allowed, body_of, entry_of, entries_of, kept_in, kept_of, accepted_apart, Pending, KeepsReports, IsRowFor, HasGathered, IsEntryOfRow, IsMost, KeepsAll, KeepsBatch, KeepsOn, KeptSoFar, LeavesSome, MakesEntry, MayMakeEntry, is_wanted, keep_reply, own_report, rest_ids, with_all, Stays, product_at, Holds, IsFiled, Stands, IsStoreFault}
use Rattle.soc_ledger.specs.declared.event.Event.TheVariants as E
use Rattle.soc_desk.specs.declared.desk.Refusal.TheVariants as F
use Rattle.soc_desk.specs.declared.desk.Reply.TheVariants as R
use Rattle.soc_desk.specs.State.{StandsFor}
use Rattle.soc_book.proofs.Changes.{IsSoundCrash, allowed-plain, events-all, kept-all, legal-next, sound_crashes}
use Rattle.soc_book.proofs.Deciding.{failed_later, mapped_some, without_doubt}
use Rattle.soc_book.proofs.Filing.{all_got, filed_at, found_at, got, id_of-got, crash_tells_row, row_tells_crash}
use Rattle.soc_book.proofs.Kept.{held_id}
use Rattle.soc_book.proofs.Pushing.{ids}
use Rattle.soc_book.proofs.Rests.{rest_all, rest_none}
use Rattle.soc_book.proofs.Standing.{allowed_in}
use Rattle.soc_book.proofs.Tellings.{rows_tell}

-- ---- how long a body may be

pub over_most : (behind limit most long : ℕ) → IsMost behind limit most → most < long → (nat_lt max_body long || not (nat_le (behind + beside_body + long) limit)) ≡ true
over_most behind limit most long is over = elim is.no_more [
  | inl whole ↦ ap (λ b. b || not (nat_le (behind + beside_body + long) limit)) (lt-ltb max_body long (omega (arith, over, whole)))
  | inr full ↦ or_second (nat_lt max_body long) (not (nat_le (behind + beside_body + long) limit)) (elim (leb_tells (behind + beside_body + long) limit) [
    | inl both ↦ let fits = both.1 in absurd (omega (arith, over, full, fits))
    | inr both ↦ ap not both.0
  ])
]

pub within_most : (behind limit most long : ℕ) → IsMost behind limit most → 0 < long → long ≤ most → (nat_lt max_body long || not (nat_le (behind + beside_body + long) limit)) ≡ false
within_most behind limit most long is some fits =
    let few = is.few in
    let room = is.room (omega (arith, some, fits)) in
    ap (λ b. b || not (nat_le (behind + beside_body + long) limit)) (le-ltb max_body long (omega (arith, few, fits)))
    ∙ elim (leb_tells (behind + beside_body + long) limit) [
      | inl both ↦ ap not both.0
      | inr both ↦ let over = both.1 in absurd (omega (arith, room, fits, over))
    ]

-- ---- one crash

row_some : (row : Option (List Cell)) → is_some row ≡ true → (cells : List Cell) × (row ≡ Some cells)
row_some None some = absurd (true_is_not_false (sym some))
row_some (Some cells) some = (cells, refl)

module _ (basis : Basis) (ledger : LedgerState) (rows : List (ℕ × List Cell)) (log : List Change) (legal : IsLegal basis log) (holds : Holds basis log ledger rows) (number : ℕ) (within : number < length ledger.crashes) where
  abbrev id : List ℕ
  id = id_of ledger number

  abbrev ev : List Event
  ev = events basis log

  abbrev row_here : Option (List Cell)
  row_here = option_map (λ s. s.1) (row_at number rows)

  pub wanted_log : (b : Bool) → is_wanted ledger.log id ≡ b → is_wanted ev id ≡ b
  wanted_log b is = ap (λ l. is_wanted l id) (sym holds.events_are) ∙ is

  module _ (wanted : is_wanted ledger.log id ≡ true) where
    pub wanted_here : is_wanted ev id ≡ true
    wanted_here = wanted_log true wanted

    -- it is held, and has a report, which is to be kept
    parts_here : (is_held ev id ≡ true) × (is_to_keep ev id ≡ true)
    parts_here = and_parts (is_held ev id) (is_to_keep ev id) wanted_here

    held_here : is_held ev id ≡ true
    held_here = parts_here.0

    keep_here : (has_report ev id ≡ true) × ((not (is_due ev id) && not (is_kept ev id)) ≡ true)
    keep_here = and_parts (has_report ev id) (not (is_due ev id) && not (is_kept ev id)) parts_here.1

    pub idle_here : IsTrue (not (is_due ev id))
    idle_here = (and_parts (not (is_due ev id)) (not (is_kept ev id)) keep_here.1).0

    pub some_row : (cells : List Cell) × (row_here ≡ Some cells)
    some_row =
        let has = holds.rows_are.each number within in
        row_some row_here (has.has ∙ (ap (λ b. b && has_report ev id) held_here ∙ keep_here.0))

    row_told : IsTrue basis.is_told → row_in basis log id ≡ Some some_row.0
    row_told is_told =
        let has = holds.rows_are.each number within in
        sym (ap (λ b. if b then row_in basis log id else None) held_here) ∙ (sym (has.told is_told) ∙ some_row.1)

    module _ (digest : List ℕ) (long : length digest ≡ 32) (digest_is : basis.digest ≡ Some digest) (tell : RowsTell basis) where
      abbrev pub made : KeptReport
      made = own_report id digest some_row.0

      pub report_told : IsTrue basis.is_told → report_of basis log id ≡ Some made
      report_told is_told =
          ap (λ (o : Option (List ℕ)). option_and_then (λ d. option_map (λ row. own_report id d row) (row_in basis log id)) o) digest_is
          ∙ ap (λ (o : Option (List Cell)). option_map (λ row. own_report id digest row) o) (row_told is_told)

      pub own_is : is_own basis made.digest ≡ true
      own_is = ap (λ (o : Option (List ℕ)). option_map_or (λ one. bytes_eq one digest) o false) digest_is ∙ itself digest

      -- the accepted crash of the number
      crash_here : (crash : Accepted) × (slice_get (accepted_of log) number ≡ Some crash) × IsFiled (entries_of (kept_of log)) crash (got ledger.crashes number within).0
      crash_here = filed_at (entries_of (kept_of log)) (accepted_of log) ledger.crashes number (got ledger.crashes number within).0 holds.filed (got ledger.crashes number within).1

      filed_id : id ≡ crash_here.0.id
      filed_id = id_of-got ledger number (got ledger.crashes number within).0 (got ledger.crashes number within).1 ∙ crash_here.2.id

      raw_is : raw_of log id ≡ crash_here.0.raw
      raw_is =
          ap (λ x. raw_of log x) filed_id
          ∙ ap (λ (o : Option Accepted). option_and_then (λ (x : Accepted). x.raw) o) (found_at (accepted_of log) number crash_here.0 (accepted_apart basis log legal.events_legal) crash_here.1)

      sound_here : IsSoundCrash crash_here.0
      sound_here = all_got IsSoundCrash (accepted_of log) number crash_here.0 (sound_crashes log legal.sound) crash_here.1

      product_here : IfSome crash_here.0.raw (λ x. product_at ledger number ≡ product_of x)
      product_here = IfSome_then crash_here.0.raw crash_here.2.told (λ x of. ap (λ (o : Option Filed). option_and_then (λ (f : Filed). f.product) o) (got ledger.crashes number within).1 ∙ of.product)

      -- a row that tells of the number's crash tells of its raw crash
      row_tells : (row : List Cell) → IsRowFor id (product_at ledger number) row → IfSome (raw_of log id) (λ x. TellsCrash x row)
      row_tells row of =
          subst (λ (o : Option Crash). IfSome o (λ x. TellsCrash x row)) (sym raw_is) (row_tells_crash (product_at ledger number) id crash_here.0.raw crash_here.0.id filed_id sound_here.1 product_here row of)

      -- where the disk tells, the row tells of the crash
      told_row : IsTrue basis.is_told → IsRowFor id (product_at ledger number) some_row.0
      told_row is_told =
          let tells = subst (λ (o : Option (List Cell)). IfSome o (λ row. IsSomeAnd (raw_of log id) (λ x. TellsCrash x row))) (row_told is_told) (rows_tell basis tell id log legal is_told) in
          crash_tells_row (product_at ledger number) id crash_here.0.raw crash_here.0.id filed_id sound_here.1 product_here some_row.0 (subst (λ (o : Option Crash). IsSomeAnd o (λ x. TellsCrash x some_row.0)) raw_is tells)

      -- ---- a row without an entry

      body_long : length (body_of (report made)) ≡ 68 + length (row_text made.row)
      body_long =
          let first = id_len id (held_id basis log id legal held_here) in
          omega (arith, first, long, length-append id (digest ++ row_text made.row), length-append digest (row_text made.row))

      module _ (most : ℕ) (at_most : IsTrue basis.is_told → IsMost (place_behind (entries_of (kept_of log))) basis.journal_bytes most) where
        passed : (most < 68 + length (row_text made.row)) ⊎ ¬ (IsRowFor id (product_at ledger number) some_row.0) → IsTrue basis.is_told → is_passed_over basis log made ≡ true
        passed (inl over) is_told = over_most (place_behind (entries_of (kept_of log))) basis.journal_bytes most (length (body_of (report made))) (at_most is_told) (omega (arith, over, body_long))
        passed (inr none) is_told = absurd (none (told_row is_told))

        -- there is no entry, and the report is passed over
        pub no_entry : MakesEntry row_here id (product_at ledger number) digest most None → IsTrue basis.is_told → is_passed_over basis log made ≡ true
        no_entry makes is_told = passed (subst (λ (o : Option (List Cell)). MakesEntry o id (product_at ledger number) digest most None) some_row.1 makes) is_told

        in_room : 68 + length (row_text made.row) ≤ most → IsTrue basis.is_told → is_passed_over basis log made ≡ false
        in_room fits is_told =
            within_most (place_behind (entries_of (kept_of log))) basis.journal_bytes most (length (body_of (report made))) (at_most is_told) (omega (arith, body_long)) (omega (arith, fits, body_long))

        -- there might be one, and the report isn't passed over
        pub may_make : MayMakeEntry row_here id (product_at ledger number) most → IsTrue basis.is_told → is_passed_over basis log made ≡ false
        may_make may = in_room (subst (λ (o : Option (List Cell)). MayMakeEntry o id (product_at ledger number) most) some_row.1 may).0

        -- ---- a row with an entry

        module _ (entry : Entry) (makes : MakesEntry row_here id (product_at ledger number) digest most (Some entry)) where
          of_row : IsEntryOfRow made (product_at ledger number) most entry
          of_row = subst (λ (o : Option (List Cell)). MakesEntry o id (product_at ledger number) digest most (Some entry)) some_row.1 makes

          pub entry_is : entry ≡ entry_of (report made)
          entry_is = of_row.is

          pub report_legal : IsLegal basis (log ++ keep (report made) ∷ [])
          report_legal = legal-next basis log (keep (report made)) legal held_here (long, of_row.tells.id, row_tells some_row.0 of_row.tells, of_row.has_text) (λ is_told. tt)

          pub not_over : IsTrue basis.is_told → is_passed_over basis log made ≡ false
          not_over = in_room of_row.fits

-- ---- stops while reports are kept

between_more : (before after more : List Kept) (image : List ℕ) → StandsBetween before after image → StandsBetween before (after ++ more) image
between_more before after more image is = record {
  more = is.more;
  rest = is.rest ++ more;
  whole = ap (λ (k : List Kept). k ++ more) is.whole ∙ (append_assoc before (is.more ++ is.rest) more ∙ ap (λ (k : List Kept). before ++ k) (append_assoc is.more is.rest more));
  stands = is.stands;
}

between_all : (before more : List Kept) (image : List ℕ) → StandsFor image (before ++ more) → StandsBetween before (before ++ more) image
between_all before more image stands = record { more = more; rest = []; whole = ap (λ (k : List Kept). before ++ k) (sym (append-nil more)); stands = stands }

pub between_behind : (before doubt after : List Kept) (image : List ℕ) → StandsBetween (before ++ doubt) after image → StandsBetween before after image
between_behind before doubt after image is = record {
  more = doubt ++ is.more;
  rest = is.rest;
  whole = is.whole ∙ (append_assoc before doubt (is.more ++ is.rest) ∙ ap (λ (k : List Kept). before ++ k) (sym (append_assoc doubt is.more is.rest)));
  stands = subst (λ (k : List Kept). StandsFor image k) (append_assoc before doubt is.more) is.stands;
}

-- an image of the log with its first reports
between_log : (log piece : List Change) (image : List ℕ) → StandsFor image (kept_of (log ++ piece)) → StandsBetween (kept_of log) (kept_of (log ++ piece)) image
between_log log piece image stands =
    let whole : kept_of (log ++ piece) ≡ kept_of log ++ kept_of piece = filter_map-append kept_in log piece in
    subst (λ (k : List Kept). StandsBetween (kept_of log) k image) (sym whole) (between_all (kept_of log) (kept_of piece) image (subst (λ (k : List Kept). StandsFor image k) whole stands))

-- ---- what was kept so far

pub part_skips : (first : List ℕ) (more rest : List (List ℕ)) → IsPartOf more rest → IsPartOf more (first ∷ rest)
part_skips first [] rest part = tt
part_skips first (own ∷ owns) rest part = inr part

settled_at : (log piece : List Change) (image : List ℕ) → Allowed (settled (log ++ piece)) image → StandsBetween (kept_of log) (kept_of (log ++ piece)) image
settled_at log piece image allowed = between_log log piece image (allowed-plain (log ++ piece) image allowed)

pub with_both : (log : List Change) (first second : List Kept) → with_all log (first ++ second) ≡ with_all (with_all log first) second
with_both log first second = ap (λ (l : List Change). log ++ l) (map-append keep first second) ∙ sym (append_assoc log (map keep first) (map keep second))

pub keeps_none : (basis : Basis) (log : List Change) (number : ℕ) → KeepsOn basis log number number []
keeps_none basis log number =
    let same : with_all log [] ≡ log = append-nil log in
    record {
      ids = [];
      events_are = refl;
      count = refl;
      among = λ more part. subst (λ (l : List Change). IsPartOf more (rest_ids (events basis l) number)) same part;
      keeps = λ is_told. ap (λ (l : List Change). to_append basis l (rest_ids (events basis l) number)) (sym same);
    }

pub keeps_append : {basis : Basis} {log : List Change} {from mid to : ℕ} {first second : List Kept} → KeepsOn basis log from mid first → KeepsOn basis (with_all log first) mid to second → KeepsOn basis log from to (first ++ second)
keeps_append {basis = basis} {log = log} {from = from} {to = to} {first = first} {second = second} a b =
    let left : List Change → List Kept = λ l. to_append basis l (rest_ids (events basis l) to) in
    record {
      ids = a.ids ++ b.ids;
      events_are = ap (events basis) (map-append keep first second)
          ∙ (map-append (event_of basis) (map keep first) (map keep second)
          ∙ (ap (λ (es : List Event). es ++ events basis (map keep second)) a.events_are
          ∙ (ap (λ (es : List Event). map (λ x. E.Reported x true) a.ids ++ es) b.events_are ∙ sym (map-append (λ x. E.Reported x true) a.ids b.ids))));
      count = let one = a.count in let two = b.count in omega (arith, one, two, length-append first second, length-append a.ids b.ids);
      among = λ more part.
          subst (λ ids. IsPartOf ids (rest_ids (events basis log) from)) (sym (append_assoc a.ids b.ids more))
          (a.among (b.ids ++ more) (b.among more (subst (λ (l : List Change). IsPartOf more (rest_ids (events basis l) to)) (with_both log first second) part)));
      keeps = λ is_told.
          a.keeps is_told
          ∙ (ap (λ (k : List Kept). first ++ k) (b.keeps is_told ∙ ap (λ (l : List Change). second ++ left l) (sym (with_both log first second)))
          ∙ sym (append_assoc first second (left (with_all log (first ++ second)))));
    }

pub none_yet : (basis : Basis) (log : List Change) (disk : DiskTold) → IsDisk disk → (IsTrue basis.is_told → (image : List ℕ) → disk.images image → Allowed (settled log) image) → KeptSoFar basis log 0 0 [] disk disk
none_yet basis log disk sound allowed = record {
  kept = keeps_none basis log 0;
  count_is = refl;
  goes_on = GoesOn-none disk sound;
  survives = λ is_told. record {
    each = λ image left. settled_at log [] image (subst (λ (l : List Change). Allowed (settled l) image) (sym (append-nil log)) (allowed is_told image (sound.only_now image left)));
  };
}

-- ---- the end

front_none : {A : Type 0} (xs ys : List A) → xs ++ ys ≡ [] → xs ≡ []
front_none [] ys none = refl
front_none (x ∷ xs) ys none = cc

module _ {basis : Basis} {digest : List ℕ} (digest_is : basis.digest ≡ Some digest) {log : List Change} {number count : ℕ} {kept : List Kept} {first disk : DiskTold} (so : KeptSoFar basis log number count kept first disk) where
  abbrev now : List Change
  now = with_all log kept

  abbrev left : List Kept
  left = to_append basis now (rest_ids (events basis now) number)

  all_ids : to_keep_of basis (events basis log) ≡ rest_ids (events basis log) 0
  all_ids = ap (λ (o : Option (List ℕ)). if is_some o then filter (is_to_keep (events basis log)) (held_ids (events basis log)) else []) digest_is ∙ sym (rest_all (events basis log))

  among_all : (ids : List (List ℕ)) → IsPartOf (ids ++ []) (rest_ids (events basis log) 0) → IsPartOf ids (to_keep_of basis (events basis log))
  among_all ids part = subst (λ all. IsPartOf ids all) (sym all_ids) (subst (λ own. IsPartOf own (rest_ids (events basis log) 0)) (append-nil ids) part)

  all_are : IsTrue basis.is_told → to_append basis log (ids_to_keep basis log) ≡ kept ++ left
  all_are is_told = ap (λ ids. to_append basis log ids) all_ids ∙ so.kept.keeps is_told

  -- nothing is in doubt at the end
  ends : (answer : Result ℕ Refusal) → EndsReports basis (keep_reply answer) (events basis log) so.kept.ids [] → (IsStoreFault (keep_reply answer) → ⊥)
      → (IsTrue basis.is_told → KeepsFirst log (to_append basis log (ids_to_keep basis log)) (keep_reply answer) (settled now)) → KeepsAll basis log first answer (settled now) disk
  ends answer told none keeps = record {
    piece = map keep kept;
    behind = refl;
    reports = record { ids = so.kept.ids; among = among_all so.kept.ids (so.kept.among [] tt); own_is = so.kept.events_are; ends = told };
    goes_on = so.goes_on;
    fault = λ is. absurd (none is);
    keeps = keeps;
    survives = λ is_told. subst (λ (k : List Kept). LeavesOnly first disk (StandsBetween (kept_of log) k)) (sym (append-nil (kept_of now))) (so.survives is_told);
  }

  pub all_kept : length (accepted_ids (events basis now)) ≤ number → KeepsAll basis log first (Ok count) (settled now) disk
  all_kept done = ends (Ok count) (so.count_is ∙ so.kept.count, refl) (λ never. never) (λ is_told.
      let same = all_are is_told ∙ (ap (λ ids. kept ++ to_append basis now ids) (rest_none (events basis now) number done) ∙ append-nil kept) in
      (so.count_is ∙ ap (λ (k : List Kept). length k) (sym same), ap (λ (k : List Kept). settled (log ++ map keep k)) (sym same)))

  -- memory for one more ran out
  pub memory_wanted : LeavesSome basis now number → KeepsAll basis log first (Err F.NoMemory) (settled now) disk
  memory_wanted some = ends (Err F.NoMemory) refl (λ never. never) (λ is_told. (kept, left, all_are is_told, some is_told, refl))

  -- where the disk went on, and nothing more is kept
  so_later : (disk' : DiskTold) → GoesOn disk disk' → (IsTrue basis.is_told → Survives disk disk' (settled now) (settled now)) → KeptSoFar basis log number count kept first disk'
  so_later disk' goes_on survives = record {
    kept = so.kept;
    count_is = so.count_is;
    goes_on = GoesOn-append first disk disk' so.goes_on goes_on;
    survives = λ is_told.
        let P : List ℕ → Type 0 = StandsBetween (kept_of log) (kept_of now) in
        LeavesOnly-append first disk disk' P so.goes_on goes_on (so.survives is_told)
        (LeavesOnly-weaker disk disk' (λ image. Allowed (settled now) image ⊎ Allowed (settled now) image) P (λ image allowed. ⊎_elim (settled_at log (map keep kept) image) (settled_at log (map keep kept) image) allowed) (survives is_told));
  }

  -- ---- some more reports, written together

  module _ {ledger : LedgerState} {next : ℕ} {numbers : List ℕ} {entries : List Entry} {reports : List Kept} (gathered : HasGathered basis now ledger number next numbers entries reports) where
    abbrev now' : List Change
    now' = with_all now reports

    both : KeepsOn basis log 0 next (kept ++ reports)
    both = keeps_append so.kept gathered.kept

    settled_before : (image : List ℕ) → Allowed (settled now) image → StandsBetween (kept_of log) (kept_of now ++ reports) image
    settled_before image allowed = between_more (kept_of log) (kept_of now) reports image (settled_at log (map keep kept) image allowed)

    with_them : (image : List ℕ) → StandsFor image (kept_of now ++ reports) → StandsBetween (kept_of log) (kept_of now ++ reports) image
    with_them image stands =
        let same = ap kept_of (with_both log kept reports) ∙ kept-all now reports in
        subst (λ (k : List Kept). StandsBetween (kept_of log) k image) same (between_log log (map keep (kept ++ reports)) image (subst (λ (k : List Kept). StandsFor image k) (sym same) stands))

    abbrev doubtful : State
    doubtful = record { log = now; doubt = reports }

    doubtful_at : (image : List ℕ) → Allowed (settled now) image ⊎ Allowed doubtful image → StandsBetween (kept_of log) (kept_of now ++ reports) image
    doubtful_at image (inl allowed) = settled_before image allowed
    doubtful_at image (inr (inl stands)) = settled_before image (inl stands)
    doubtful_at image (inr (inr stands)) = with_them image stands

    appended_at : (image : List ℕ) → Allowed (settled now) image ⊎ Allowed (settled now') image → StandsBetween (kept_of log) (kept_of now ++ reports) image
    appended_at image (inl allowed) = settled_before image allowed
    appended_at image (inr allowed) = with_them image (subst (λ (k : List Kept). StandsFor image k) (kept-all now reports) (allowed-plain now' image allowed))

    both_between : (disk' : DiskTold) (after : State) → ((image : List ℕ) → Allowed (settled now) image ⊎ Allowed after image → StandsBetween (kept_of log) (kept_of now ++ reports) image) → GoesOn disk disk' → Survives disk disk' (settled now) after
        → IsTrue basis.is_told → LeavesOnly first disk' (StandsBetween (kept_of log) (kept_of now ++ reports))
    both_between disk' after at_each goes_on survives is_told =
        let P : List ℕ → Type 0 = StandsBetween (kept_of log) (kept_of now ++ reports) in
        LeavesOnly-append first disk disk' P so.goes_on goes_on (LeavesOnly-weaker first disk (StandsBetween (kept_of log) (kept_of now)) P (between_more (kept_of log) (kept_of now) reports) (so.survives is_told))
        (LeavesOnly-weaker disk disk' (λ image. Allowed (settled now) image ⊎ Allowed after image) P at_each survives)

    -- they are written
    pub batch_kept : (disk' : DiskTold) → GoesOn disk disk' → (IsTrue basis.is_told → Survives disk disk' (settled now) (settled now')) → KeptSoFar basis log next (count + length numbers) (kept ++ reports) first disk'
    batch_kept disk' goes_on survives = record {
      kept = both;
      count_is = let counted = so.count_is in let few = gathered.count in omega (arith, counted, few, length-append kept reports);
      goes_on = GoesOn-append first disk disk' so.goes_on goes_on;
      survives = λ is_told. subst (λ (k : List Kept). LeavesOnly first disk' (StandsBetween (kept_of log) k)) (sym (ap kept_of (with_both log kept reports) ∙ kept-all now reports))
          (both_between disk' (settled now') appended_at goes_on (survives is_told) is_told);
    }

    ids_some : reports ≢ [] → gathered.kept.ids ≢ []
    ids_some some none = let count = gathered.kept.count in some (none_long reports (omega (arith, count, ap (λ (x : List (List ℕ)). length x) none)))

    part_of : IsPartOf ((so.kept.ids ++ gathered.kept.ids) ++ []) (rest_ids (events basis log) 0)
    part_of = subst (λ ids. IsPartOf ids (rest_ids (events basis log) 0)) (sym (append_assoc so.kept.ids gathered.kept.ids [])) (so.kept.among (gathered.kept.ids ++ []) (gathered.kept.among [] tt))

    -- the write failed
    pub batch_failed : reports ≢ [] → (disk' : DiskTold) → DiskFailed disk disk' → GoesOn disk disk' → (IsTrue basis.is_told → Survives disk disk' (settled now) doubtful) → KeepsAll basis log first (Err F.StoreFault) doubtful disk'
    batch_failed some disk' failed goes_on survives = record {
      piece = map keep kept;
      behind = refl;
      reports = record {
        ids = so.kept.ids;
        among = among_all so.kept.ids (so.kept.among [] tt);
        own_is = so.kept.events_are;
        ends = (gathered.kept.ids, ids_some some, among_all (so.kept.ids ++ gathered.kept.ids) part_of, sym (events-all basis reports) ∙ gathered.kept.events_are);
      };
      goes_on = GoesOn-append first disk disk' so.goes_on goes_on;
      fault = λ is. failed_later first disk disk' so.goes_on failed;
      keeps = λ is_told. (kept, reports, to_append basis now' (rest_ids (events basis now') next), all_are is_told ∙ ap (λ (k : List Kept). kept ++ k) (gathered.kept.keeps is_told), some, refl);
      survives = λ is_told. both_between disk' doubtful doubtful_at goes_on (survives is_told) is_told;
    }

    some_left : reports ≢ [] → LeavesSome basis now number
    some_left some is_told none = some (front_none reports (to_append basis now' (rest_ids (events basis now') next)) (sym (gathered.kept.keeps is_told) ∙ none))

    -- what a batch leaves
    pub next_kept : (kept' : ℕ) → kept' ≡ length numbers → (disk' : DiskTold) (after : State) (Now : State → Type 0) → Now after → KeepsBatch basis now disk reports (Ok kept') after disk'
        → Now (settled (with_all log (kept ++ reports))) × KeptSoFar basis log next (count + kept') (kept ++ reports) first disk'
    next_kept kept' counted disk' after Now stands did =
        let survives = subst (λ (s : State). IsTrue basis.is_told → Survives disk disk' (settled now) s) did.ends did.survives in
        (subst Now (did.ends ∙ ap (λ (l : List Change). settled l) (sym (with_both log kept reports))) stands, subst (λ n. KeptSoFar basis log next (count + n) (kept ++ reports) first disk') (sym counted) (batch_kept disk' did.goes_on survives))

-- and where it was refused
module _ {basis : Basis} {digest : List ℕ} (digest_is : basis.digest ≡ Some digest) {log : List Change} {number count : ℕ} {kept : List Kept} {first disk : DiskTold} (so : KeptSoFar basis log number count kept first disk)
    {ledger : LedgerState} {next : ℕ} {numbers : List ℕ} {entries : List Entry} {reports : List Kept} (gathered : HasGathered basis (with_all log kept) ledger number next numbers entries reports) where
  pub batch_refused : (refusal : Refusal) (disk' : DiskTold) (after : State) → KeepsBatch basis (with_all log kept) disk reports (Err refusal) after disk' → KeepsAll basis log first (Err refusal) after disk'
  batch_refused F.StoreFault disk' after did =
      subst (λ (s : State). KeepsAll basis log first (Err F.StoreFault) s disk') (sym did.ends.1)
      (batch_failed digest_is so gathered did.ends.0 disk' did.ends.2 did.goes_on (subst (λ (s : State). IsTrue basis.is_told → Survives disk disk' (settled (with_all log kept)) s) did.ends.1 did.survives))
  batch_refused F.NoMemory disk' after did =
      let later = so_later digest_is so disk' did.goes_on (subst (λ (s : State). IsTrue basis.is_told → Survives disk disk' (settled (with_all log kept)) s) did.ends.1 did.survives) in
      subst (λ (s : State). KeepsAll basis log first (Err F.NoMemory) s disk') (sym did.ends.1) (memory_wanted digest_is later (some_left digest_is so gathered did.ends.0))
  batch_refused _ disk' after did = absurd did.ends

-- ---- the ids of a book's numbers

module _ (basis : Basis) (ledger : LedgerState) (rows : List (ℕ × List Cell)) (log : List Change) (legal : IsLegal basis log) (holds : Holds basis log ledger rows) where
  ids_here : map (λ (f : Filed). f.id) ledger.crashes ≡ accepted_ids (events basis log)
  ids_here = ids basis log ledger rows legal holds

  pub id_there : (number : ℕ) → number < length ledger.crashes → slice_get (accepted_ids (events basis log)) number ≡ Some (id_of ledger number)
  id_there number within =
      let f = got ledger.crashes number within in
      ap (λ (xs : List (List ℕ)). slice_get xs number) (sym ids_here)
      ∙ (slice_get-map (λ (x : Filed). x.id) ledger.crashes number ∙ (ap (λ (o : Option Filed). option_map (λ (x : Filed). x.id) o) f.1 ∙ ap (λ x. Some x) (sym (id_of-got ledger number f.0 f.1))))

  pub count_here : length (accepted_ids (events basis log)) ≡ length ledger.crashes
  count_here = ap (λ (xs : List (List ℕ)). length xs) (sym ids_here) ∙ length-map ledger.crashes (λ (f : Filed). f.id)

  pub distinct_here : AreDistinct (accepted_ids (events basis log))
  distinct_here = distinct_ids (events basis log) legal.events_legal

pub begins_keeping : {basis : Basis} {limits : Limits} {ledger : LedgerState} {rows : List (ℕ × List Cell)} {pending : Option Pending} {journal : JournalState} {disk : DiskTold} {log : List Change} → Stands basis limits ledger rows pending journal disk (settled log) → IsDisk disk → KeptSoFar basis log 0 0 [] disk disk
begins_keeping {basis = basis} {disk = disk} {log = log} stands sound = none_yet basis log disk sound (allowed_in stands)

-- ---- with a doubt before

grows_settled : (basis : Basis) (reply : Reply) (log : List Event) (doubt : List Event) (piece : List Event) (after : List Event) → BehindDoubt log doubt piece (Reports basis reply after) → KeepGrows basis reply log doubt piece after
grows_settled basis (R.Refused F.StoreFault) log doubt piece after behind = inr behind
grows_settled basis _ log doubt piece after behind = behind

settled_piece : (before : List Change) (doubt : List Kept) (log : List Change) → Settles before doubt log → (log ≡ before) ⊎ ((doubt ≢ []) × (log ≡ before ++ map keep doubt))
settled_piece before [] log settles = inl settles
settled_piece before (first ∷ more) log (inl kept) = inr ((λ is. cc), kept)
settled_piece before (first ∷ more) log (inr dropped) = inl dropped

module _ (basis : Basis) (state : State) (disk disk1 disk2 : DiskTold) (looks : Looks disk disk1) (allowed : IsTrue basis.is_told → (image : List ℕ) → disk.images image → Allowed state image) (log : List Change) (settles : Settles state.log state.doubt log)
    (answer : Result ℕ Refusal) (after : State) (k : KeepsAll basis log disk1 answer after disk2) (legal : IsLegalState basis after) (allowed_after : IsTrue basis.is_told → (image : List ℕ) → disk2.images image → Allowed after image) where
  survives_by : ((image : List ℕ) → StandsBetween (kept_of log) (kept_with_doubt after) image → StandsBetween (kept_of state.log) (kept_with_doubt after) image) → IsTrue basis.is_told → LeavesOnly disk disk2 (KeepAllows state after)
  survives_by wider is_told =
      LeavesOnly-append disk disk1 disk2 (KeepAllows state after) looks.goes_on k.goes_on
      (LeavesOnly-weaker disk disk1 disk.images (KeepAllows state after) (λ image left. inl (allowed is_told image left)) looks.any_moment)
      (LeavesOnly-weaker disk1 disk2 (StandsBetween (kept_of log) (kept_with_doubt after)) (KeepAllows state after) (λ image left. inr (wider image left)) (k.survives is_told))

  keeps_by : (piece : List Change) → after.log ≡ state.log ++ piece → KeepGrows basis (keep_reply answer) (events basis state.log) (doubted basis state) (events basis piece) (doubted basis after)
      → ((image : List ℕ) → StandsBetween (kept_of log) (kept_with_doubt after) image → StandsBetween (kept_of state.log) (kept_with_doubt after) image) → KeepsReports basis state disk (keep_reply answer) after disk2
  keeps_by piece behind grows wider = record {
    piece = piece;
    behind = behind;
    grows = grows;
    legal = legal;
    goes_on = GoesOn-append disk disk1 disk2 looks.goes_on k.goes_on;
    fault = λ is. failed_later disk disk1 disk2 looks.goes_on (k.fault is);
    step = λ is_told. inr (record { log = log; settles = settles; keeps = k.keeps is_told });
    survives = survives_by wider;
    allowed = allowed_after;
  }

  -- reports that stand behind the changes in doubt, which were kept
  behind_kept : (doubt : List Kept) → doubt ≢ [] → Reports basis (keep_reply answer) (doubted basis after) (events basis state.log ++ map (λ (c : Kept). event_of basis (keep c)) doubt) (events basis k.piece)
      → BehindDoubt (events basis state.log) (map (λ (c : Kept). event_of basis (keep c)) doubt) (events basis (map keep doubt ++ k.piece)) (Reports basis (keep_reply answer) (doubted basis after))
  behind_kept [] some reports = absurd (some refl)
  behind_kept (first ∷ more) some reports = inr (
    events basis k.piece,
    map-append (event_of basis) (map keep (first ∷ more)) k.piece ∙ ap (λ (es : List Event). es ++ events basis k.piece) (events-all basis (first ∷ more)),
    reports,
  )

  pub keeps_settled : KeepsReports basis state disk (keep_reply answer) after disk2
  keeps_settled = elim (settled_piece state.log state.doubt log settles) [
    | inl same ↦ keeps_by k.piece (k.behind ∙ ap (λ (l : List Change). l ++ k.piece) same)
        (grows_settled basis (keep_reply answer) (events basis state.log) (doubted basis state) (events basis k.piece) (doubted basis after)
        (without_doubt (events basis state.log) (doubted basis state) (events basis k.piece) (Reports basis (keep_reply answer) (doubted basis after))
        (subst (λ (l : List Change). Reports basis (keep_reply answer) (doubted basis after) (events basis l) (events basis k.piece)) same k.reports)))
        (λ image between. subst (λ (l : List Change). StandsBetween (kept_of l) (kept_with_doubt after) image) same between)
    | inr kept ↦ keeps_by (map keep state.doubt ++ k.piece) (k.behind ∙ (ap (λ (l : List Change). l ++ k.piece) kept.1 ∙ append_assoc state.log (map keep state.doubt) k.piece))
        (grows_settled basis (keep_reply answer) (events basis state.log) (doubted basis state) (events basis (map keep state.doubt ++ k.piece)) (doubted basis after)
        (behind_kept state.doubt kept.0
        (subst (λ (es : List Event). Reports basis (keep_reply answer) (doubted basis after) es (events basis k.piece))
        (ap (λ (l : List Change). events basis l) kept.1 ∙ (map-append (event_of basis) state.log (map keep state.doubt) ∙ ap (λ (es : List Event). events basis state.log ++ es) (events-all basis state.doubt))) k.reports)))
        (λ image between. between_behind (kept_of state.log) state.doubt (kept_with_doubt after) image
        (subst (λ (ks : List Kept). StandsBetween ks (kept_with_doubt after) image) (ap kept_of kept.1 ∙ kept-all state.log state.doubt) between))
  ]

-- without a digest there is nothing to keep
pub nothing_kept : (basis : Basis) (log : List Change) (disk : DiskTold) → basis.digest ≡ None → IsDisk disk → (IsTrue basis.is_told → (image : List ℕ) → disk.images image → Allowed (settled log) image) → KeepsAll basis log disk (Ok 0) (settled log) disk
nothing_kept basis log disk none sound allowed = record {
  piece = [];
  behind = sym (append-nil log);
  reports = record { ids = []; among = tt; own_is = refl; ends = (refl, refl) };
  goes_on = GoesOn-none disk sound;
  fault = λ is. absurd is;
  keeps = λ is_told.
      let no_ids : ids_to_keep basis log ≡ [] = ap (λ (o : Option (List ℕ)). if is_some o then filter (is_to_keep (events basis log)) (held_ids (events basis log)) else []) none in
      subst (λ ids. KeepsFirst log (to_append basis log ids) (R.Kept 0) (settled log)) (sym no_ids) (refl, ap settled (sym (append-nil log)));
  survives = λ is_told.
      subst (λ (k : List Kept). LeavesOnly disk disk (StandsBetween (kept_of log) k)) (ap kept_of (append-nil log) ∙ sym (append-nil (kept_of log))) ((none_yet basis log disk sound allowed).survives is_told);
}

-- the doubt stays
pub mend_failed : (basis : Basis) (state : State) (disk disk' : DiskTold) → Looks disk disk' → state.doubt ≢ [] → DiskFailed disk disk' → IsLegalState basis state → (IsTrue basis.is_told → (image : List ℕ) → disk.images image → Allowed state image)
    → KeepsReports basis state disk (R.Refused F.StoreFault) state disk'
mend_failed basis state disk disk' looks some failed legal allowed = record {
  piece = [];
  behind = sym (append-nil state.log);
  grows = inl (mapped_some (λ change. event_of basis (keep change)) state.doubt some, (refl, refl));
  legal = legal;
  goes_on = looks.goes_on;
  fault = λ is. failed;
  step = λ is_told. inl (some, (refl, refl));
  survives = λ is_told. LeavesOnly-weaker disk disk' disk.images (KeepAllows state state) (λ image left. inl (allowed is_told image left)) looks.any_moment;
  allowed = λ is_told image left. allowed is_told image (looks.images image left);
}

pub mend_fails : (basis : Basis) (state : State) (disk disk' : DiskTold) (Now : State → Type 0) → ((after : State) → Now after → IsLegalState basis after) → (refusal : Refusal) → Looks disk disk'
    → (IsTrue basis.is_told → (image : List ℕ) → disk.images image → Allowed state image) → refusal ≡ F.StoreFault → Stays state disk disk' refusal Now → (after : State) × Now after × KeepsReports basis state disk (R.Refused refusal) after disk'
mend_fails basis state disk disk' Now legal F.StoreFault looks allowed fault begins = (state, begins.2, mend_failed basis state disk disk' looks begins.0 begins.1 (legal state begins.2) allowed)
mend_fails basis state disk disk' Now legal _ looks allowed fault begins = absurd (cc)
