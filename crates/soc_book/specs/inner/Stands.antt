-- How the tables of a book stand for a state of the desk's log.
use Rattle.std.specs.Prelude.{◌≡◌, ℕ, ◌+◌, ◌<◌, ◌≤◌, ◌^◌, ◌-◌, min, not, ◌&&◌, if◌then◌else◌, true, false, IsTrue, List, [], ◌∷◌, ◌++◌, length, Option, None, Some, IfSome, IsSome, is_some, ⊤}
use Rattle.std.specs.Option.{option_map}
use Rattle.std.specs.List.{AllByRecursion}
use Rattle.sha2.specs.Sha256.{sha256}
use Rattle.soc_raw.specs.Record.{Crash, head_text, content_text}
use Rattle.soc_schema.specs.declared.value.Cell.{Cell}
use Rattle.soc_schema.specs.Reports.{product_of}
use Rattle.soc_edge.specs.Disk.{DiskTold}
use Rattle.soc_journal.specs.Entries.{Entry, head_size, place_behind, sealed_all}
use Rattle.soc_journal.specs.States.{JournalState}
use Rattle.soc_journal.specs.declared.settled.Settled.{Settled}
use Rattle.soc_journal.specs.declared.settled.Settled.TheVariants as S
use Rattle.soc_ledger.specs.declared.crash.Filed.{Filed}
use Rattle.soc_ledger.specs.declared.event.Event.TheVariants as E
use Rattle.soc_ledger.specs.State.{LedgerState, id_of, with_event}
use Rattle.soc_ledger.specs.Due.{is_due}
use Rattle.soc_ledger.specs.Events.{accepted_ids, is_among, is_held, was_accepted}
use Rattle.soc_ledger.specs.Reported.{has_report}
use Rattle.soc_store.specs.Stored.{PlacesRise, row_at, without_row}
use Rattle.soc_vault.specs.Vaults.{IsAt, Means}
use Rattle.soc_desk.specs.declared.desk.Limits.{Limits}
use Rattle.soc_desk.specs.Basis.{Basis}
use Rattle.soc_desk.specs.Decisions.{accepting}
use Rattle.soc_desk.specs.Log.{Accepted, Kept, KeptReport, accept, ask, withdraw, report, Change, events, accepted_of, row_in, is_own}
use Rattle.soc_desk.specs.State.{State, IsLegalState, entry_of, entries_of, kept_of}
use Rattle.soc_book.specs.declared.book.Change.{Change as Pending}
use Rattle.soc_book.specs.declared.book.Change.TheVariants as P
use Rattle.soc_book.specs.declared.submission.NewCrash.{NewCrash}
use Rattle.soc_book.specs.inner.Books.{Tells}

-- ---- what a change needs of the ledger

-- the crash of the number is held, and there is room for one more event
abbrev pub FitsHeld : LedgerState → ℕ → Type 0
FitsHeld ledger number = (0 < ledger.room) × (number < length ledger.crashes) × IsTrue (is_held ledger.log (id_of ledger number))

-- how many reports, or new crashes, are written together at most
abbrev pub most_together : ℕ
most_together = 1_024

-- behind how many bytes of other entries none is written with them
abbrev pub most_bytes : ℕ
most_bytes = 4_194_304

-- the crashes of the numbers are held
abbrev pub AreHeld : LedgerState → List ℕ → Type 0
AreHeld ledger numbers = AllByRecursion (λ number. (number < length ledger.crashes) × IsTrue (is_held ledger.log (id_of ledger number))) numbers

-- and there is room for their reports
abbrev pub FitReports : LedgerState → List ℕ → Type 0
FitReports ledger numbers = (most_together ≤ ledger.room) × (length numbers ≤ most_together) × AreHeld ledger numbers

-- none of the crashes has one of these ids, or that of one before it
abbrev pub AreNew : List (List ℕ) → List NewCrash → Type 0
AreNew ids [] = ⊤
AreNew ids (new ∷ news) = (is_among ids new.id ≡ false) × AreNew (ids ++ new.id ∷ []) news

-- the crashes are new, and there is room for them
abbrev pub FitNew : LedgerState → List NewCrash → Type 0
FitNew ledger news = (most_together ≤ ledger.room) × (length news ≤ most_together) × (length ledger.crashes + length news < 2 ^ 32)
    × AreNew (accepted_ids ledger.log) news

abbrev pub Fits : LedgerState → Pending → Type 0
Fits ledger (P.Accept new) = (0 < ledger.room) × (was_accepted ledger.log new.id ≡ false) × (length ledger.crashes < 2 ^ 32 - 1)
Fits ledger (P.Accepts news) = FitNew ledger news.items
Fits ledger (P.Ask number) = FitsHeld ledger number
Fits ledger (P.Withdraw number) = FitsHeld ledger number
Fits ledger (P.Reports numbers) = FitReports ledger numbers.items

-- the journal is in doubt exactly where changes wait, and the ledger can take them
pub record IsSafe (ledger : LedgerState) (journal : JournalState) (pending : Option Pending) : Type 0 where
  pub unsettled : is_some journal.doubt ≡ is_some pending
  pub fits : IfSome pending (Fits ledger)

-- ---- what a change does to the tables

-- what is kept of a new crash, once its entry stands at a place
pub record IsFiledAt (new : NewCrash) (place : ℕ) (filed : Filed) : Type 0 where
  pub id : filed.id ≡ new.id
  pub place_is : filed.place ≡ place
  pub content : place + head_size + new.content < 2 ^ 64 → filed.content ≡ place + (head_size + new.content)
  pub product : filed.product ≡ new.product
  pub digest : filed.digest ≡ new.digest

-- the reports of the crashes of these numbers, one behind the other
abbrev pub with_reports : LedgerState → List ℕ → LedgerState
with_reports ledger [] = ledger
with_reports ledger (number ∷ numbers) = with_reports (with_event ledger (E.Reported (id_of ledger number) true)) numbers

-- new crashes are accepted, their entries one behind the other from one place on to another
abbrev pub PushesNew : LedgerState → List NewCrash → ℕ → LedgerState → ℕ → Type 0
PushesNew ledger [] place ledger' end = (ledger' ≡ ledger) × (end ≡ place)
PushesNew ledger (new ∷ news) place ledger' end = (filed : Filed) × IsFiledAt new place filed
    × PushesNew (record (with_event ledger (E.Accepted filed.id)) { crashes = ledger.crashes ++ filed ∷ [] }) news (min (place + new.size) (2 ^ 64 - 1)) ledger' end

abbrev pub Pushes : LedgerState → List (ℕ × List Cell) → Pending → ℕ → LedgerState → List (ℕ × List Cell) → Type 0
Pushes ledger rows (P.Accept new) place ledger' rows' = (filed : Filed) × IsFiledAt new place filed
    × (ledger' ≡ record (with_event ledger (E.Accepted filed.id)) { crashes = ledger.crashes ++ filed ∷ [] }) × (rows' ≡ rows)
Pushes ledger rows (P.Accepts news) place ledger' rows' = ((end : ℕ) × PushesNew ledger news.items place ledger' end) × (rows' ≡ rows)
Pushes ledger rows (P.Ask number) place ledger' rows' = (ledger' ≡ with_event ledger (E.Asked (id_of ledger number))) × (rows' ≡ rows)
Pushes ledger rows (P.Withdraw number) place ledger' rows' =
    (ledger' ≡ with_event ledger (E.Withdrawn (id_of ledger number))) × (rows' ≡ without_row number rows)
Pushes ledger rows (P.Reports numbers) place ledger' rows' = (ledger' ≡ with_reports ledger numbers.items) × (rows' ≡ rows)

-- no crash is accepted by the change
abbrev pub AcceptsNone : Pending → Type 0
AcceptsNone (P.Accept new) = ⊥
AcceptsNone (P.Accepts news) = ⊥
AcceptsNone _ = ⊤

-- the changes in doubt are added where their entries were kept, and else nothing
abbrev pub AddsSettled : LedgerState → List (ℕ × List Cell) → Option Pending → Settled → LedgerState → List (ℕ × List Cell) → Type 0
AddsSettled ledger rows (Some pending) (S.Kept place) ledger' rows' = Pushes ledger rows pending place ledger' rows'
AddsSettled ledger rows (Some pending) S.Clean ledger' rows' = (ledger' ≡ ledger) × (rows' ≡ rows)
AddsSettled ledger rows (Some pending) S.Dropped ledger' rows' = (ledger' ≡ ledger) × (rows' ≡ rows)
AddsSettled ledger rows None outcome ledger' rows' = (ledger' ≡ ledger) × (rows' ≡ rows)

-- ---- the crashes

-- what is kept in memory of a raw crash whose entry stands among these
pub record IsFiledOf (entries : List Entry) (filed : Filed) (raw : Crash) : Type 0 where
  pub product : filed.product ≡ product_of raw
  pub digest : filed.digest ≡ sha256 (content_text raw)
  pub at : IsAt entries filed.place (entry_of (accepting raw))
  pub content : filed.content ≡ filed.place + (head_size + length (head_text raw))

pub record IsFiled (entries : List Entry) (crash : Accepted) (filed : Filed) : Type 0 where
  pub id : filed.id ≡ crash.id
  pub told : IfSome crash.raw (IsFiledOf entries filed)

-- each accepted crash is kept at its number
abbrev pub AreFiled : List Entry → List Accepted → List Filed → Type 0
AreFiled entries [] [] = ⊤
AreFiled entries [] (_ ∷ _) = ⊥
AreFiled entries (_ ∷ _) [] = ⊥
AreFiled entries (crash ∷ crashes) (filed ∷ others) = IsFiled entries crash filed × AreFiled entries crashes others

-- ---- the rows

-- the row that is shown of a crash
abbrev pub shown_row : Basis → List Change → List ℕ → Option (List Cell)
shown_row basis log id = if is_held (events basis log) id then row_in basis log id else None

-- what the store has at a number: a row exactly where the crash is held and has a report
pub record HasRow (basis : Basis) (log : List Change) (id : List ℕ) (row : Option (List Cell)) : Type 0 where
  pub has : is_some row ≡ (is_held (events basis log) id && has_report (events basis log) id)
  pub told : IsTrue basis.is_told → row ≡ shown_row basis log id

-- each row stands at its crash's number, and there is no other
pub record HasRows (basis : Basis) (log : List Change) (ledger : LedgerState) (rows : List (ℕ × List Cell)) : Type 0 where
  pub rise : PlacesRise rows
  pub each : (number : ℕ) → number < length ledger.crashes → HasRow basis log (id_of ledger number) (option_map (λ s. s.1) (row_at number rows))
  pub no_other : AllByRecursion (λ s. s.0 < length ledger.crashes) rows

-- ---- the tables

-- ledger and rows tell of this log, whose entries the journal has
pub record Holds (basis : Basis) (log : List Change) (ledger : LedgerState) (rows : List (ℕ × List Cell)) : Type 0 where
  pub events_are : ledger.log ≡ events basis log
  pub filed : AreFiled (entries_of (kept_of log)) (accepted_of log) ledger.crashes
  pub rows_are : HasRows basis log ledger rows

-- ---- the doubt

-- it accepts this crash, whose content is told exactly where the disk tells it
abbrev pub IsAcceptanceOf : Basis → NewCrash → Accepted → Type 0
IsAcceptanceOf basis new crash = (new.id ≡ crash.id) × IfSome crash.raw (λ raw. Tells new raw × IsTrue basis.is_told)
    × (IsTrue basis.is_told → IsSome crash.raw)

-- a change that waits for its entry to be settled, of a crash by its number
abbrev pub IsPending : Basis → List Change → LedgerState → Pending → Kept → Type 0
IsPending basis log ledger (P.Accept new) (accept crash) = IsAcceptanceOf basis new crash
IsPending basis log ledger (P.Ask number) (ask id) = id_of ledger number ≡ id
IsPending basis log ledger (P.Withdraw number) (withdraw id) = id_of ledger number ≡ id
IsPending basis log ledger _ _ = ⊥

-- each accepts its crash, in order
abbrev pub AreAccepted : Basis → List NewCrash → List Kept → Type 0
AreAccepted basis [] [] = ⊤
AreAccepted basis (new ∷ news) (accept crash ∷ changes) = IsAcceptanceOf basis new crash × AreAccepted basis news changes
AreAccepted basis _ _ = ⊥

-- the report is of the crash of a number, which isn't due, and made by the run's own lists and symbols
abbrev pub IsReportOf : Basis → List Change → LedgerState → ℕ → KeptReport → Type 0
IsReportOf basis log ledger number made = (id_of ledger number ≡ made.id)
    × IsTrue (is_own basis made.digest) × IsTrue (not (is_due (events basis log) made.id))

-- one of each crash of these numbers, in order
abbrev pub AreReports : Basis → List Change → LedgerState → List ℕ → List Kept → Type 0
AreReports basis log ledger [] [] = ⊤
AreReports basis log ledger (number ∷ numbers) (report made ∷ changes) =
    IsReportOf basis log ledger number made × AreReports basis log ledger numbers changes
AreReports basis log ledger _ _ = ⊥

-- the changes that wait for their entries to be settled are those in doubt
abbrev pub ArePending : Basis → List Change → LedgerState → Option Pending → List Kept → Type 0
ArePending basis log ledger None [] = ⊤
ArePending basis log ledger (Some (P.Reports numbers)) (first ∷ more) = AreReports basis log ledger numbers.items (first ∷ more)
ArePending basis log ledger (Some (P.Accepts news)) (first ∷ more) = AreAccepted basis news.items (first ∷ more)
ArePending basis log ledger (Some pending) (change ∷ []) = IsPending basis log ledger pending change
ArePending basis log ledger _ _ = ⊥

-- ---- the whole

-- the journal of the log has room for these changes
abbrev pub HasRoom : Basis → List Change → List Kept → Type 0
HasRoom basis log changes = place_behind (entries_of (kept_of log)) + length (sealed_all (entries_of changes)) ≤ basis.journal_bytes

-- the same, where there are some
abbrev pub FitJournal : Basis → List Change → List Kept → Type 0
FitJournal basis log [] = ⊤
FitJournal basis log (first ∷ more) = HasRoom basis log (first ∷ more)

-- the disk holds the journal of the log, and of the changes in doubt, which fit it
pub record IsOnDisk (basis : Basis) (journal : JournalState) (disk : DiskTold) (state : State) : Type 0 where
  pub means : Means disk journal (entries_of (kept_of state.log)) (entries_of state.doubt)
  pub fits : FitJournal basis state.log state.doubt

-- the limits of the basis are those of the book and of the journal
pub record AreBounds (basis : Basis) (limits : Limits) (journal_limit : ℕ) : Type 0 where
  pub crashes : basis.crashes ≡ limits.crashes
  pub bytes : basis.journal_bytes ≡ limits.journal_bytes
  pub limit : journal_limit ≡ basis.journal_bytes
  pub short : basis.journal_bytes < 2 ^ 64

-- ledger, rows, doubt, journal and disk stand for a state of the log
pub record Stands (basis : Basis) (limits : Limits) (ledger : LedgerState) (rows : List (ℕ × List Cell)) (pending : Option Pending) (journal : JournalState) (disk : DiskTold) (state : State) : Type 0 where
  pub legal : IsLegalState basis state
  pub holds : Holds basis state.log ledger rows
  pub doubt : ArePending basis state.log ledger pending state.doubt
  pub bounds : AreBounds basis limits journal.limit
  pub told : IsTrue basis.is_told → IsOnDisk basis journal disk state
