-- What a book's tables hold while a journal is read, and what they take of an entry.
use Rattle.std.specs.Prelude.{◌≡◌, ◌⊎◌, ℕ, ◌-◌, ◌<◌, ◌^◌, Bool, false, ◌&&◌, if◌then◌else◌, IsTrue, List, length, map, Option, bytes_eq}
use Rattle.std.specs.Option.{option_and_then, option_map_or}
use Rattle.soc_raw.specs.CrashId.{IsId}
use Rattle.soc_raw.specs.Record.{Crash, IsCrash, record_of}
use Rattle.soc_schema.specs.declared.value.Cell.{Cell}
use Rattle.soc_schema.specs.Reports.{product_of}
use Rattle.soc_journal.specs.Entries.{Entry, accept_kind, ask_kind, withdraw_kind, report_kind, first_gate}
use Rattle.soc_ledger.specs.declared.crash.Filed.{Filed}
use Rattle.soc_ledger.specs.declared.event.Event.TheVariants as E
use Rattle.soc_ledger.specs.Due.{is_due}
use Rattle.soc_ledger.specs.Events.{is_held, was_accepted}
use Rattle.soc_ledger.specs.State.{LedgerState, id_of, with_event}
use Rattle.soc_store.specs.Stored.{with_row}
use Rattle.soc_desk.specs.Basis.{Basis}
use Rattle.soc_desk.specs.Log.{Accepted, Kept, KeptReport, accepted_of, IsLegal}
use Rattle.soc_desk.specs.Opens.{AreChanges, as_told, log_of}
use Rattle.soc_book.specs.declared.book.Change.{Change as Pending}
use Rattle.soc_book.specs.declared.book.Change.TheVariants as P
use Rattle.soc_book.specs.declared.submission.NewCrash.{NewCrash}
use Rattle.soc_book.specs.inner.Books.{Tells, IsReport, IsRowFor}
use Rattle.soc_book.specs.inner.Pieces.{product_at}
use Rattle.soc_book.specs.inner.Stands.{Fits, FitsHeld, Pushes, Holds}

abbrev pub Rows : Type 0
Rows = List (ℕ × List Cell)

-- ---- what was recovered

-- a crash's id and product, as they are kept and as they are told
abbrev pub kept_pair : Filed → List ℕ × Option (List ℕ)
kept_pair filed = (filed.id, filed.product)

abbrev pub told_pair : Accepted → List ℕ × Option (List ℕ)
told_pair crash = (crash.id, option_and_then product_of crash.raw)

-- The entries are those of one list of changes of a legal log, and the tables tell of it. Entries that stand from another
-- place on than a journal's are told of by a disk alone that tells nothing.
pub record Recovers (own : Option (List ℕ)) (ledger : LedgerState) (rows : Rows) (start : ℕ) (entries : List Entry) : Type 0 where
  pub kept : List Kept
  pub are : (basis : Basis) → AreChanges basis entries kept
  pub only : (basis : Basis) (others : List Kept) → AreChanges basis entries others → others ≡ kept
  pub crashes_are : map kept_pair ledger.crashes ≡ map told_pair (accepted_of (log_of kept))
  pub legal : (basis : Basis) → IsLegal basis (log_of (map (as_told basis.is_told) kept))
  pub holds : (basis : Basis) → basis.digest ≡ own → (IsTrue basis.is_told → start ≡ first_gate)
      → Holds basis (log_of (map (as_told basis.is_told) kept)) ledger rows

-- ---- what is taken

-- the body is the record of a new crash, and its entry stands at the place
pub record TakesCrash (ledger : LedgerState) (rows : Rows) (place : ℕ) (body : List ℕ) (ledger' : LedgerState) (rows' : Rows) : Type 0 where
  pub new : NewCrash
  pub raw : Crash
  pub is : IsCrash raw
  pub whole : record_of raw ≡ body
  pub tells : Tells new raw
  pub fits : Fits ledger (P.Accept new)
  pub pushes : Pushes ledger rows (P.Accept new) place ledger' rows'

-- the body is the id of a held crash
pub record TakesId (make : ℕ → Pending) (ledger : LedgerState) (rows : Rows) (body : List ℕ) (ledger' : LedgerState) (rows' : Rows) : Type 0 where
  pub number : ℕ
  pub fits : FitsHeld ledger number
  pub id_is : id_of ledger number ≡ body
  pub pushes : (place : ℕ) → Pushes ledger rows (make number) place ledger' rows'

-- the row tells of the crash of the number
abbrev pub IsRowOf : LedgerState → ℕ → List ℕ → List Cell → Type 0
IsRowOf ledger number named row = IsRowFor named (product_at ledger number) row

abbrev pub is_among_own : Option (List ℕ) → List ℕ → Bool
is_among_own own digest = option_map_or (λ one. bytes_eq one digest) own false

-- the body is that of the report of a held crash; its row is put where it counts as the crash's processing
pub record TakesReport (own : Option (List ℕ)) (ledger : LedgerState) (rows : Rows) (body : List ℕ) (ledger' : LedgerState) (rows' : Rows) : Type 0 where
  pub made : KeptReport
  pub is : IsReport made body
  pub only : (other : KeptReport) → IsReport other body → other ≡ made
  pub number : ℕ
  pub fits : FitsHeld ledger number
  pub id_is : id_of ledger number ≡ made.id
  pub tells : IsRowOf ledger number made.id made.row
  pub pushed : ledger' ≡ with_event ledger (E.Reported (id_of ledger number) (is_among_own own made.digest))
  pub put : rows' ≡ (if is_among_own own made.digest && is_due ledger.log made.id then with_row (number, made.row) rows else rows)

abbrev pub Takes : Option (List ℕ) → LedgerState → Rows → ℕ → Entry → LedgerState → Rows → Type 0
Takes own ledger rows place entry ledger' rows' =
    ((entry.kind ≡ accept_kind) × TakesCrash ledger rows place entry.body ledger' rows')
    ⊎ ((entry.kind ≡ ask_kind) × TakesId P.Ask ledger rows entry.body ledger' rows')
    ⊎ ((entry.kind ≡ withdraw_kind) × TakesId P.Withdraw ledger rows entry.body ledger' rows')
    ⊎ ((entry.kind ≡ report_kind) × TakesReport own ledger rows entry.body ledger' rows')

-- ---- what isn't taken

-- no crash that may be accepted has this record
abbrev pub NoCrashOf : LedgerState → List ℕ → Type 0
NoCrashOf ledger body =
    (raw : Crash) → IsCrash raw → record_of raw ≡ body → was_accepted ledger.log raw.id ≡ false → ¬ (length ledger.crashes < 2 ^ 32 - 1)

-- no held crash has this id
abbrev pub NoHeldOf : LedgerState → List ℕ → Type 0
NoHeldOf ledger id = IsId id → ¬ (IsTrue (is_held ledger.log id))

-- no report of a held crash, with a row that tells of it, has this body
abbrev pub NoReportOf : LedgerState → List ℕ → Type 0
NoReportOf ledger body =
    (made : KeptReport) → IsReport made body → IsTrue (is_held ledger.log made.id)
    → ¬ ((number : ℕ) → number < length ledger.crashes → id_of ledger number ≡ made.id → IsRowOf ledger number made.id made.row)

pub record TakesNot (ledger : LedgerState) (entry : Entry) : Type 0 where
  pub accept : entry.kind ≡ accept_kind → NoCrashOf ledger entry.body
  pub ask : entry.kind ≡ ask_kind → NoHeldOf ledger entry.body
  pub withdraw : entry.kind ≡ withdraw_kind → NoHeldOf ledger entry.body
  pub report : entry.kind ≡ report_kind → NoReportOf ledger entry.body
