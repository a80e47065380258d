-- What settling, appending and reading leave of a book that stands for a state.
use Rattle.std.proofs.Common.{◌≡◌, ◌⊎◌, inl, inr, ℕ, ◌+◌, ◌-◌, ◌<◌, ◌≤◌, ◌^◌, min, true, false, IsTrue, List, [], ◌∷◌, ◌++◌, length, map, Option, Some, None, IfSome, IsSomeAnd, Result, Ok, Err, sym, ap, subst, ◌∙◌, refl, arith, length-append}
use Rattle.soc_book.proofs.Words.{is_some, leb-true, cases_lt, le-leb, false_from_ne_true, map-append, Cell, DiskTold, IsDisk, GoesOn, LeavesOnly, DiskFailed, LeavesOnly-weaker, length-sealed, length-sealed_all, sealed_one, Entry, beside_body, place_behind, sealed_all, JournalState, AtRest, InDoubt, IsKeptAt, journal_after, accepted_ids, is_held, was_accepted, Filed, LedgerState, id_of, with_event, true_is_not_false, accepted_ids-more, Means, settled_entries, Limits, Basis, Change, Kept, keep, IsLegal, State, settled, Settles, entry_of, entries_of, kept_of, body_of, has_room, Allowed, Survives, Pending, NewCrash, AreAppended, AcceptsNone, AreBounds, AreHeld, AreNew, Fits, FitJournal, FitNew, FitReports, HasRoom, IsFiledAt, IsSafe, Pushes, PushesNew, AddsSettled, Holds, ArePending, IsOnDisk, Stands, most_together, with_reports}
use Rattle.soc_edge.specs.declared.failed.Failed.{Failed}
use Rattle.soc_journal.specs.Text.{JournalText, EitherText}
use Rattle.soc_journal.specs.declared.settled.Settled.{Settled}
use Rattle.soc_journal.specs.declared.settled.Settled.TheVariants as S
use Rattle.soc_ledger.specs.declared.event.Event.TheVariants as E
use Rattle.soc_vault.specs.Vaults.{StandsFor as VaultStandsFor}
use Rattle.soc_desk.specs.declared.desk.Refusal.TheVariants as F
use Rattle.soc_book.specs.declared.book.Change.TheVariants as P
use Rattle.soc_book.proofs.Changes.{entries-all, settled-legal}
use Rattle.soc_book.proofs.Pushing.{ArePlaced, held_behind, pushed_all}
use Rattle.soc_book.proofs.Rows.{none_of}

-- ---- the gate of a journal that means these entries

module _ (disk : DiskTold) (journal : JournalState) (entries : List Entry) where
  gate_at_rest : (content : Option (List ℕ)) → IsSomeAnd content (λ bytes. AtRest journal entries bytes disk.images) → journal.gate ≡ place_behind entries
  gate_at_rest None means = absurd means
  gate_at_rest (Some bytes) means = means.gate_stands

  gate_in_doubt : (more : List Entry) (content : Option (List ℕ)) → IsSomeAnd content (λ bytes. InDoubt journal entries more bytes disk.images) → journal.gate ≡ place_behind entries
  gate_in_doubt more None means = absurd means
  gate_in_doubt more (Some bytes) means = means.gate_stands

  pub gate_behind : (doubt : List Entry) → Means disk journal entries doubt → journal.gate ≡ place_behind entries
  gate_behind [] means = gate_at_rest disk.content means
  gate_behind (first ∷ more) means = gate_in_doubt (first ∷ more) disk.content means

  -- each image stands for them
  image_at_rest : (content : Option (List ℕ)) → IsSomeAnd content (λ bytes. AtRest journal entries bytes disk.images) → (image : List ℕ) → disk.images image → JournalText entries image
  image_at_rest None means image left = absurd means
  image_at_rest (Some bytes) means image left = subst (JournalText entries) (sym (means.only image left)) means.text

  image_in_doubt : (more : List Entry) (content : Option (List ℕ)) → IsSomeAnd content (λ bytes. InDoubt journal entries more bytes disk.images) → (image : List ℕ) → disk.images image → EitherText entries more image
  image_in_doubt more None means image left = absurd means
  image_in_doubt more (Some bytes) means image left = means.each image left

-- what a stop may leave of a disk that a state stands on is allowed
pub images_allowed : (basis : Basis) (journal : JournalState) (disk : DiskTold) (log : List Change) (doubt : List Kept) → IsOnDisk basis journal disk (record { log = log; doubt = doubt })
    → (image : List ℕ) → disk.images image → Allowed (record { log = log; doubt = doubt }) image
images_allowed basis journal disk log [] on image left = inl (image_at_rest disk journal (entries_of (kept_of log)) disk.content on.means image left)
images_allowed basis journal disk log (first ∷ more) on image left =
    elim (image_in_doubt disk journal (entries_of (kept_of log)) (entries_of (first ∷ more)) disk.content on.means image left) [
      | inl before ↦ inl before
      | inr with_them ↦ inr (subst (λ (es : List Entry). JournalText es image) (sym (map-append entry_of (kept_of log) (first ∷ more))) with_them)
    ]

-- the same of a book
pub allowed_in : {basis : Basis} {limits : Limits} {ledger : LedgerState} {rows : List (ℕ × List Cell)} {pending : Option Pending} {journal : JournalState} {disk : DiskTold} {state : State} → Stands basis limits ledger rows pending journal disk state
    → IsTrue basis.is_told → (image : List ℕ) → disk.images image → Allowed state image
allowed_in {basis = basis} {journal = journal} {disk = disk} {state = state} stands is_told = images_allowed basis journal disk state.log state.doubt (stands.told is_told)

-- ---- settling

abbrev pub IsClean : Result Settled Failed → Type 0
IsClean result = result ≡ Ok S.Clean

limit-kept : (journal : JournalState) (result : Result Settled Failed) → (journal_after journal result).limit ≡ journal.limit
limit-kept journal (Err failed) = refl
limit-kept journal (Ok S.Clean) = refl
limit-kept journal (Ok (S.Kept place)) = refl
limit-kept journal (Ok S.Dropped) = refl

-- nothing waits without a doubt
pub none_pending_of : (basis : Basis) (log : List Change) (ledger : LedgerState) (pending : Pending) → ArePending basis log ledger (Some pending) [] → ⊥
none_pending_of basis log ledger (P.Accept new) are = are
none_pending_of basis log ledger (P.Accepts news) are = are
none_pending_of basis log ledger (P.Ask number) are = are
none_pending_of basis log ledger (P.Withdraw number) are = are
none_pending_of basis log ledger (P.Reports numbers) are = are

module _ (basis : Basis) (limits : Limits) (ledger : LedgerState) (rows : List (ℕ × List Cell)) (pending : Option Pending) (journal : JournalState) (disk : DiskTold) where
  -- the same tables over another moment of the disk
  pub stands_moved : (journal' : JournalState) (disk' : DiskTold) (state : State) → Stands basis limits ledger rows pending journal disk state → journal' ≡ journal
      → ((entries : List Entry) (doubt : List Entry) → Means disk journal entries doubt → Means disk' journal' entries doubt) → Stands basis limits ledger rows pending journal' disk' state
  stands_moved journal' disk' state stands same moves = record {
    legal = stands.legal;
    holds = stands.holds;
    doubt = stands.doubt;
    bounds = subst (AreBounds basis limits) (sym (ap (λ (j : JournalState). j.limit) same)) stands.bounds;
    told = λ is_told. let on = stands.told is_told in record { means = moves (entries_of (kept_of state.log)) (entries_of state.doubt) on.means; fits = on.fits };
  }

  -- where the doubt was settled
  module _ (ledger' : LedgerState) (rows' : List (ℕ × List Cell)) (journal' : JournalState) (disk' : DiskTold) (outcome : Settled) (safe : IsSafe ledger journal pending)
      (clean : IsClean (Ok outcome) → journal.doubt ≡ None) (place : IsKeptAt journal.gate outcome) (after : journal' ≡ journal_after journal (Ok outcome))
      (moves : (entries : List Entry) (doubt : List Entry) → Means disk journal entries doubt → Means disk' journal' (settled_entries entries doubt outcome) []) where
    settles_to : (log : List Change) (state : State) → Stands basis limits ledger rows pending journal disk state → IsLegal basis log → Holds basis log ledger' rows'
        → (IsTrue basis.is_told → settled_entries (entries_of (kept_of state.log)) (entries_of state.doubt) outcome ≡ entries_of (kept_of log)) → Stands basis limits ledger' rows' None journal' disk' (settled log)
    settles_to log state stands legal holds same = record {
      legal = settled-legal basis log legal;
      holds = holds;
      doubt = tt;
      bounds = subst (AreBounds basis limits) (sym (ap (λ (j : JournalState). j.limit) after ∙ limit-kept journal (Ok outcome))) stands.bounds;
      told = λ is_told. record {
        means = subst (λ (es : List Entry). Means disk' journal' es []) (same is_told) (moves (entries_of (kept_of state.log)) (entries_of state.doubt) (stands.told is_told).means);
        fits = tt;
      };
    }

    stays : (log : List Change) (holds : Holds basis log ledger rows) → ledger' ≡ ledger → rows' ≡ rows → Holds basis log ledger' rows'
    stays log holds same_ledger same_rows = subst (λ (l : LedgerState). Holds basis log l rows') (sym same_ledger) (subst (λ (r : List (ℕ × List Cell)). Holds basis log ledger r) (sym same_rows) holds)

-- where the entries of changes of the log stand
placed : (basis : Basis) (journal : JournalState) (log : List Change) (changes : List Kept) (place : ℕ) → basis.journal_bytes < 2 ^ 64 → place ≡ journal.gate → journal.gate ≡ place_behind (entries_of (kept_of log)) → HasRoom basis log changes → ArePlaced basis log changes place
placed basis journal log changes place short at gate room = record { place_is = at ∙ gate; ends = omega (arith, at, gate, room, length-sealed_all (entries_of changes), short) }

module _ (basis : Basis) (limits : Limits) (ledger ledger' : LedgerState) (rows rows' : List (ℕ × List Cell)) (journal journal' : JournalState) (disk disk' : DiskTold) where
  -- a settled doubt: the changes are in the log, all of them, or they are forgotten
  pub settle_ends : (log : List Change) (doubt : List Kept) (pending : Option Pending) (outcome : Settled) → IsSafe ledger journal pending → (IsClean (Ok outcome) → journal.doubt ≡ None) → IsKeptAt journal.gate outcome
      → journal' ≡ journal_after journal (Ok outcome) → ((entries : List Entry) (d : List Entry) → Means disk journal entries d → Means disk' journal' (settled_entries entries d outcome) [])
      → Stands basis limits ledger rows pending journal disk (record { log = log; doubt = doubt }) → AddsSettled ledger rows pending outcome ledger' rows'
      → (log' : List Change) × Settles log doubt log' × Stands basis limits ledger' rows' None journal' disk' (settled log')
  settle_ends log [] None outcome safe clean place after moves stands (same_ledger, same_rows) = (
    log,
    refl,
    settles_to basis limits ledger rows None journal disk ledger' rows' journal' disk' outcome safe clean place after moves log (settled log) stands stands.legal.log
        (stays basis limits ledger rows None journal disk ledger' rows' journal' disk' outcome safe clean place after moves log stands.holds same_ledger same_rows) (λ is_told. refl),
  )
  settle_ends log [] (Some pending) outcome safe clean place after moves stands adds = absurd (none_pending_of basis log ledger pending stands.doubt)
  settle_ends log (first ∷ more) None outcome safe clean place after moves stands adds = absurd stands.doubt
  settle_ends log (first ∷ more) (Some pending) S.Clean safe clean place after moves stands adds =
      absurd (true_is_not_false (sym safe.unsettled ∙ ap (λ (o : Option ℕ). is_some o) (clean refl)))
  settle_ends log (first ∷ more) (Some pending) S.Dropped safe clean place after moves stands (same_ledger, same_rows) = (
    log,
    inr refl,
    settles_to basis limits ledger rows (Some pending) journal disk ledger' rows' journal' disk' S.Dropped safe clean place after moves log (record { log = log; doubt = first ∷ more }) stands stands.legal.log
        (stays basis limits ledger rows (Some pending) journal disk ledger' rows' journal' disk' S.Dropped safe clean place after moves log stands.holds same_ledger same_rows) (λ is_told. refl),
  )
  settle_ends log (first ∷ more) (Some pending) (S.Kept place) safe clean at after moves stands adds =
      let gate = λ (is_told : IsTrue basis.is_told). gate_behind disk journal (entries_of (kept_of log)) (entries_of (first ∷ more)) (stands.told is_told).means in
      let room = λ (is_told : IsTrue basis.is_told). (stands.told is_told).fits in (
        log ++ map keep (first ∷ more),
        inl refl,
        settles_to basis limits ledger rows (Some pending) journal disk ledger' rows' journal' disk' (S.Kept place) safe clean at after moves (log ++ map keep (first ∷ more)) (record { log = log; doubt = first ∷ more }) stands stands.legal.doubt
            (pushed_all basis log ledger rows stands.legal.log stands.holds pending (first ∷ more) place ledger' rows' stands.legal.doubt safe.fits stands.doubt
            (λ is_told. placed basis journal log (first ∷ more) place stands.bounds.short at (gate is_told) (room is_told)) adds)
            (λ is_told. sym (entries-all log (first ∷ more))),
      )

-- ---- appending

image_of : (entries more : List Entry) (image : List ℕ) → VaultStandsFor entries more image → EitherText entries more image
image_of entries [] image stands = inl stands
image_of entries (first ∷ more) image stands = stands

-- changes of which entries were to be kept together
module _ {basis : Basis} {limits : Limits} {ledger : LedgerState} {rows : List (ℕ × List Cell)} {pending : Option Pending} {journal : JournalState} {disk : DiskTold} {log : List Change}
    (stands : Stands basis limits ledger rows pending journal disk (settled log)) (none : pending ≡ None) (own : Pending) (fits : Fits ledger own) (changes : List Kept) (are : ArePending basis log ledger (Some own) changes)
    (next : IsLegal basis (log ++ map keep changes)) (given : List Entry) (same : IsTrue basis.is_told → given ≡ entries_of changes) (disk' : DiskTold) (goes_on : GoesOn disk disk')
    (any_moment : (entries : List Entry) → Means disk journal entries [] → LeavesOnly disk disk' (VaultStandsFor entries given)) where
  abbrev entries : List Entry
  entries = entries_of (kept_of log)

  means_now : IsTrue basis.is_told → Means disk journal entries []
  means_now is_told = (stands.told is_told).means

  gate_now : IsTrue basis.is_told → journal.gate ≡ place_behind entries
  gate_now is_told = gate_behind disk journal entries [] (means_now is_told)

  survives_as : (after : State) → ((image : List ℕ) → JournalText (entries ++ entries_of changes) image → Allowed after image) → IsTrue basis.is_told → Survives disk disk' (settled log) after
  survives_as after with_them is_told =
      LeavesOnly-weaker disk disk' (VaultStandsFor entries (entries_of changes)) (λ image. Allowed (settled log) image ⊎ Allowed after image)
      (λ image left. elim (image_of entries (entries_of changes) image left) [
        | inl before ↦ inl (inl before)
        | inr kept ↦ inr (with_them image kept)
      ])
      (subst (λ (es : List Entry). LeavesOnly disk disk' (VaultStandsFor entries es)) (same is_told) (any_moment entries (means_now is_told)))

  size_now : IsTrue basis.is_told → length (sealed_all given) ≡ length (sealed_all (entries_of changes))
  size_now is_told = ap (λ (es : List Entry). length (sealed_all es)) (same is_told)

  room_now : (journal.limit < journal.gate + length (sealed_all given) → ⊥) → IsTrue basis.is_told → HasRoom basis log changes
  room_now not_full is_told =
      elim (cases_lt journal.limit (journal.gate + length (sealed_all given))) [
        | inl full ↦ absurd (not_full full)
        | inr fits ↦ let limit = stands.bounds.limit in omega (arith, gate_now is_told, size_now is_told, limit, fits)
      ]

  fit : (some : List Kept) → HasRoom basis log some → FitJournal basis log some
  fit [] room = tt
  fit (first ∷ more) room = room

  -- all are written
  pub append_ok : (place : ℕ) (ledger' : LedgerState) (rows' : List (ℕ × List Cell)) (journal' : JournalState) (count : ℕ) → place ≡ journal.gate → (journal.limit < journal.gate + length (sealed_all given) → ⊥)
      → journal' ≡ record journal { gate = journal.gate + count } → Pushes ledger rows own place ledger' rows' → ((es : List Entry) → Means disk journal es [] → Means disk' journal' (es ++ given) [])
      → (after : State) × Stands basis limits ledger' rows' pending journal' disk' after × AreAppended basis log disk changes (Ok tt) after disk'
  append_ok place ledger' rows' journal' count at not_full after pushes kept =
      let log' = log ++ map keep changes in (
        settled log',
        record {
          legal = settled-legal basis log' next;
          holds = pushed_all basis log ledger rows stands.legal.log stands.holds own changes place ledger' rows' next fits are
              (λ is_told. placed basis journal log changes place stands.bounds.short at (gate_now is_told) (room_now not_full is_told)) pushes;
          doubt = subst (λ (p : Option Pending). ArePending basis log' ledger' p []) (sym none) tt;
          bounds = subst (AreBounds basis limits) (sym (ap (λ (j : JournalState). j.limit) after)) stands.bounds;
          told = λ is_told. record {
            means = subst (λ (es : List Entry). Means disk' journal' es []) (ap (λ (es : List Entry). entries ++ es) (same is_told) ∙ sym (entries-all log changes)) (kept entries (means_now is_told));
            fits = tt;
          };
        },
        record {
          ends = (refl, room_now not_full);
          goes_on = goes_on;
          survives = survives_as (settled log') (λ image text. inl (subst (λ (es : List Entry). JournalText es image) (sym (entries-all log changes)) text));
        },
      )

  -- their write failed
  pub append_fails : (journal' : JournalState) (count : ℕ) → (journal.limit < journal.gate + length (sealed_all given) → ⊥) → journal' ≡ record journal { doubt = Some count } → DiskFailed disk disk'
      → ((es : List Entry) → Means disk journal es [] → Means disk' journal' es given)
      → (after : State) × Stands basis limits ledger rows (Some own) journal' disk' after × AreAppended basis log disk changes (Err F.StoreFault) after disk'
  append_fails journal' count not_full after failed in_doubt =
      let doubtful : State = record { log = log; doubt = changes } in (
        doubtful,
        record {
          legal = record { log = stands.legal.log; doubt = next };
          holds = stands.holds;
          doubt = are;
          bounds = subst (AreBounds basis limits) (sym (ap (λ (j : JournalState). j.limit) after)) stands.bounds;
          told = λ is_told. record {
            means = subst (λ (es : List Entry). Means disk' journal' entries es) (same is_told) (in_doubt entries (means_now is_told));
            fits = fit changes (room_now not_full is_told);
          };
        },
        record {
          ends = (refl, failed, room_now not_full);
          goes_on = goes_on;
          survives = survives_as doubtful (λ image text. inr (subst (λ (es : List Entry). JournalText es image) (sym (map-append entry_of (kept_of log) changes)) text));
        },
      )

  -- there is no room for them
  pub append_full : (journal' : JournalState) → IsDisk disk → journal.limit < journal.gate + length (sealed_all given) → journal' ≡ journal → disk' ≡ disk
      → (after : State) × Stands basis limits ledger rows pending journal' disk' after × AreAppended basis log disk changes (Err F.JournalFull) after disk'
  append_full journal' sound full same_journal same_disk = (
    settled log,
    subst (λ (j : JournalState). Stands basis limits ledger rows pending j disk' (settled log)) (sym same_journal) (subst (λ (d : DiskTold). Stands basis limits ledger rows pending journal d (settled log)) (sym same_disk) stands),
    record {
      ends = (refl, λ is_told room. let limit = stands.bounds.limit in omega (arith, gate_now is_told, size_now is_told, limit, full, room));
      goes_on = goes_on;
      survives = λ is_told. subst (λ (d : DiskTold). Survives disk d (settled log) (settled log)) (sym same_disk) (record { each = λ image left. inl (allowed_in stands is_told image (sound.only_now image left)) });
    },
  )

-- whether the entry of one change fits
module _ (basis : Basis) (log : List Change) (change : Kept) where
  abbrev behind : ℕ
  behind = place_behind (entries_of (kept_of log))

  size_one : length (sealed_all (entries_of (change ∷ []))) ≡ beside_body + length (body_of change)
  size_one = ap (λ (x : List ℕ). length x) (sealed_one (entry_of change)) ∙ length-sealed (entry_of change)

  pub room_one : HasRoom basis log (change ∷ []) → has_room basis log change ≡ true
  room_one room = le-leb (behind + beside_body + length (body_of change)) basis.journal_bytes (omega (arith, room, size_one))

  pub no_room_one : ¬ (HasRoom basis log (change ∷ [])) → has_room basis log change ≡ false
  no_room_one full = false_from_ne_true (has_room basis log change) (λ room.
      full (let fits = leb-true (behind + beside_body + length (body_of change)) basis.journal_bytes room in omega (arith, fits, size_one)))

-- the same of a doubt that was taken out
pub settle_taken : (basis : Basis) (limits : Limits) (ledger ledger' : LedgerState) (rows rows' : List (ℕ × List Cell)) (pending taken left : Option Pending) (journal journal' : JournalState) (disk disk' : DiskTold) (state : State) (outcome : Settled)
    → IsSafe ledger journal pending → (IsClean (Ok outcome) → journal.doubt ≡ None) → IsKeptAt journal.gate outcome → journal' ≡ journal_after journal (Ok outcome)
    → ((entries : List Entry) (d : List Entry) → Means disk journal entries d → Means disk' journal' (settled_entries entries d outcome) [])
    → Stands basis limits ledger rows pending journal disk state → taken ≡ pending → left ≡ None → AddsSettled ledger rows taken outcome ledger' rows'
    → (log' : List Change) × Settles state.log state.doubt log' × Stands basis limits ledger' rows' left journal' disk' (settled log')
settle_taken basis limits ledger ledger' rows rows' pending taken left journal journal' disk disk' state outcome safe clean place after moves stands same none adds =
    let ends = settle_ends basis limits ledger ledger' rows rows' journal journal' disk disk' state.log state.doubt pending outcome safe clean place after moves stands
    (subst (λ (p : Option Pending). AddsSettled ledger rows p outcome ledger' rows') same adds) in
    (ends.0, ends.1, subst (λ (p : Option Pending). Stands basis limits ledger' rows' p journal' disk' (settled ends.0)) (sym none) ends.2)

-- no change waits where the journal isn't in doubt
pub none_waits : (ledger : LedgerState) (journal : JournalState) (pending : Option Pending) → IsSafe ledger journal pending → journal.doubt ≡ None → pending ≡ None
none_waits ledger journal pending safe none = none_of pending (sym safe.unsettled ∙ ap (λ (o : Option ℕ). is_some o) none)

-- ---- what the tables owe each other, once reports are added

pub reports-crashes : (numbers : List ℕ) (ledger : LedgerState) → (with_reports ledger numbers).crashes ≡ ledger.crashes
reports-crashes [] ledger = refl
reports-crashes (number ∷ numbers) ledger = reports-crashes numbers (with_event ledger (E.Reported (id_of ledger number) true))

pub pushed_crashes : (ledger : LedgerState) (rows : List (ℕ × List Cell)) (place : ℕ) (ledger' : LedgerState) (rows' : List (ℕ × List Cell)) (pending : Pending) → AcceptsNone pending → Pushes ledger rows pending place ledger' rows' → ledger'.crashes ≡ ledger.crashes
pushed_crashes ledger rows place ledger' rows' (P.Ask number) none (same, same_rows) = ap (λ (l : LedgerState). l.crashes) same
pushed_crashes ledger rows place ledger' rows' (P.Withdraw number) none (same, same_rows) = ap (λ (l : LedgerState). l.crashes) same
pushed_crashes ledger rows place ledger' rows' (P.Reports numbers) none (same, same_rows) = ap (λ (l : LedgerState). l.crashes) same ∙ reports-crashes numbers.items ledger
pushed_crashes ledger rows place ledger' rows' _ never pushes = absurd never

pub reports-room : (numbers : List ℕ) (ledger : LedgerState) → ledger.room ≤ (with_reports ledger numbers).room + length numbers
reports-room [] ledger = omega arith
reports-room (number ∷ numbers) ledger =
    let later = reports-room numbers (with_event ledger (E.Reported (id_of ledger number) true)) in
    omega (arith, later)

pub new-room : (news : List NewCrash) (ledger : LedgerState) (place : ℕ) (ledger' : LedgerState) (end : ℕ) → PushesNew ledger news place ledger' end → ledger.room ≤ ledger'.room + length news
new-room [] ledger place ledger' end (same, same_end) = let room = ap (λ (l : LedgerState). l.room) same in omega (arith, room)
new-room (new ∷ news) ledger place ledger' end (filed, at, pushes) =
    let later = new-room news (record (with_event ledger (E.Accepted filed.id)) { crashes = ledger.crashes ++ filed ∷ [] }) (min (place + new.size) (2 ^ 64 - 1)) ledger' end pushes in
    omega (arith, later)

-- what a settled doubt leaves of the room
pub room_settled : (ledger ledger' : LedgerState) (rows rows' : List (ℕ × List Cell)) (pending : Option Pending) (outcome : Settled) → IfSome pending (Fits ledger) → AddsSettled ledger rows pending outcome ledger' rows'
    → ledger.room ≤ ledger'.room + most_together
room_settled ledger ledger' rows rows' None outcome fits (same, same_rows) = let room = ap (λ (l : LedgerState). l.room) same in omega (arith, room)
room_settled ledger ledger' rows rows' (Some pending) S.Clean fits (same, same_rows) = let room = ap (λ (l : LedgerState). l.room) same in omega (arith, room)
room_settled ledger ledger' rows rows' (Some pending) S.Dropped fits (same, same_rows) = let room = ap (λ (l : LedgerState). l.room) same in omega (arith, room)
room_settled ledger ledger' rows rows' (Some (P.Accept new)) (S.Kept place) fits (filed, at, same, same_rows) = let room = ap (λ (l : LedgerState). l.room) same in omega (arith, room)
room_settled ledger ledger' rows rows' (Some (P.Accepts news)) (S.Kept place) fits ((end, pushes), same_rows) =
    let few : length news.items ≤ most_together = fits.1 in
    omega (arith, new-room news.items ledger place ledger' end pushes, few)
room_settled ledger ledger' rows rows' (Some (P.Ask number)) (S.Kept place) fits (same, same_rows) = let room = ap (λ (l : LedgerState). l.room) same in omega (arith, room)
room_settled ledger ledger' rows rows' (Some (P.Withdraw number)) (S.Kept place) fits (same, same_rows) = let room = ap (λ (l : LedgerState). l.room) same in omega (arith, room)
room_settled ledger ledger' rows rows' (Some (P.Reports numbers)) (S.Kept place) fits (same, same_rows) =
    let few : length numbers.items ≤ most_together = fits.1 in
    omega (arith, ap (λ (l : LedgerState). l.room) same, reports-room numbers.items ledger, few)

-- while reports are added, one after the other
pub record IsAdding (first : LedgerState) (numbers : List ℕ) (ledger : LedgerState) (rest : List ℕ) : Type 0 where
  pub all : with_reports ledger rest ≡ with_reports first numbers
  pub room : length rest ≤ ledger.room
  pub held : AreHeld ledger rest

pub adding_begins : (ledger : LedgerState) (numbers : List ℕ) → FitReports ledger numbers → IsAdding ledger numbers ledger numbers
adding_begins ledger numbers fits =
    let large : most_together ≤ ledger.room = fits.0 in
    let few : length numbers ≤ most_together = fits.1 in
    record { all = refl; room = omega (arith, large, few); held = fits.2 }

pub adding_one : (first : LedgerState) (numbers : List ℕ) (ledger ledger' : LedgerState) (rest : List ℕ) (number : ℕ) (behind : List ℕ) → rest ≡ number ∷ behind → ledger' ≡ with_event ledger (E.Reported (id_of ledger number) true) → IsAdding first numbers ledger rest
    → IsAdding first numbers ledger' behind
adding_one first numbers ledger ledger' rest number behind is same adding =
    let event = E.Reported (id_of ledger number) true in
    let here = subst (λ ns. IsAdding first numbers ledger ns) is adding in
    let room = here.room in
    subst (λ (l : LedgerState). IsAdding first numbers l behind) (sym same)
    (record { all = here.all; room = omega (arith, room); held = held_behind ledger event ledger.room behind refl refl here.held.1 })

-- the next one may be added
pub adding_next : (first : LedgerState) (numbers : List ℕ) (ledger : LedgerState) (rest : List ℕ) (number : ℕ) (behind : List ℕ) → rest ≡ number ∷ behind → IsAdding first numbers ledger rest
    → (number < length ledger.crashes) × (IsTrue (is_held ledger.log (id_of ledger number)) × (0 < ledger.room))
adding_next first numbers ledger rest number behind is adding =
    let here = subst (λ ns. IsAdding first numbers ledger ns) is adding in
    let room = here.room in
    (here.held.0.0, (here.held.0.1, omega (arith, room)))

pub adding_ends : (first : LedgerState) (numbers : List ℕ) (ledger : LedgerState) (rest : List ℕ) → length rest ≡ 0 → IsAdding first numbers ledger rest → ledger ≡ with_reports first numbers
adding_ends first numbers ledger [] none adding = adding.all
adding_ends first numbers ledger (number ∷ rest) none adding = absurd (omega (arith, none))

-- ---- new crashes, one after the other

pub record IsAccepting (first : LedgerState) (news : List NewCrash) (start : ℕ) (ledger : LedgerState) (rest : List NewCrash) (place : ℕ) : Type 0 where
  pub leads : (ledger' : LedgerState) (end : ℕ) → PushesNew ledger rest place ledger' end → PushesNew first news start ledger' end
  pub room : length rest ≤ ledger.room
  pub few : length ledger.crashes + length rest < 2 ^ 32
  pub new : AreNew (accepted_ids ledger.log) rest

pub accepting_begins : (ledger : LedgerState) (news : List NewCrash) (place : ℕ) → FitNew ledger news → IsAccepting ledger news place ledger news place
accepting_begins ledger news place fits =
    let large : most_together ≤ ledger.room = fits.0 in
    let few : length news ≤ most_together = fits.1 in
    record { leads = λ ledger' end pushes. pushes; room = omega (arith, large, few); few = fits.2; new = fits.3 }

module _ (first : LedgerState) (news : List NewCrash) (start : ℕ) (ledger : LedgerState) (place : ℕ) (new : NewCrash) (behind : List NewCrash) (accepting : IsAccepting first news start ledger (new ∷ behind) place) (filed : Filed) where
  -- the next one may be accepted
  pub accepting_next : filed.id ≡ new.id → (was_accepted ledger.log filed.id ≡ false) × (length ledger.crashes < 2 ^ 32 - 1) × (0 < ledger.room)
  accepting_next id =
      let few = accepting.few in
      let room = accepting.room in
      (ap (λ x. was_accepted ledger.log x) id ∙ accepting.new.0, omega (arith, few), omega (arith, room))

  pub accepting_one : (ledger' : LedgerState) (place' : ℕ) → IsFiledAt new place filed → ledger' ≡ record (with_event ledger (E.Accepted filed.id)) { crashes = ledger.crashes ++ filed ∷ [] } → place' ≡ min (place + new.size) (2 ^ 64 - 1)
      → IsAccepting first news start ledger' behind place'
  accepting_one ledger' place' at same moved =
      let few = accepting.few in
      let room = accepting.room in
      let ids : accepted_ids (ledger.log ++ E.Accepted filed.id ∷ []) ≡ accepted_ids ledger.log ++ new.id ∷ [] =
      accepted_ids-more ledger.log (E.Accepted filed.id) ∙ ap (λ x. accepted_ids ledger.log ++ x ∷ []) at.id in
      subst (λ (l : LedgerState). IsAccepting first news start l behind place') (sym same)
      (subst (λ (n : ℕ). IsAccepting first news start (record (with_event ledger (E.Accepted filed.id)) { crashes = ledger.crashes ++ filed ∷ [] }) behind n) (sym moved)
      (record {
        leads = λ last end pushes. accepting.leads last end (filed, at, pushes);
        room = omega (arith, room);
        few = omega (arith, few, length-append ledger.crashes (filed ∷ []));
        new = subst (λ (xs : List (List ℕ)). AreNew xs behind) (sym ids) accepting.new.1;
      }))
