-- What keeping reports does: of one crash, of all so far, and of all.
use Rattle.std.specs.Prelude.{◌≡◌, ◌≢◌, ◌⊎◌, ℕ, ◌+◌, ◌<◌, ◌≤◌, Bool, true, ◌&&◌, IsTrue, List, ◌++◌, [], length, map, filter, drop, slice_get, Option, None, Some, Result, Ok, Err}
use Rattle.soc_schema.specs.declared.value.Cell.{Cell}
use Rattle.soc_schema.specs.RowText.{HasText, row_text}
use Rattle.soc_edge.specs.Disk.{DiskTold, GoesOn, DiskFailed, LeavesOnly}
use Rattle.soc_journal.specs.Entries.{Entry, beside_body, entries_text, max_body, sealed_all}
use Rattle.soc_journal.specs.States.{JournalState}
use Rattle.soc_ledger.specs.declared.event.Event.{Event}
use Rattle.soc_ledger.specs.declared.event.Event.TheVariants as E
use Rattle.soc_ledger.specs.Events.{is_held, accepted_ids}
use Rattle.soc_desk.specs.declared.desk.Reply.{Reply}
use Rattle.soc_desk.specs.declared.desk.Reply.TheVariants as R
use Rattle.soc_desk.specs.declared.desk.Refusal.{Refusal}
use Rattle.soc_desk.specs.declared.desk.Refusal.TheVariants as F
use Rattle.soc_desk.specs.Asks.{IsStoreFault}
use Rattle.soc_desk.specs.Basis.{Basis}
use Rattle.soc_desk.specs.Keeps.{IsPartOf, KeepsFirst, Reports, StandsBetween, ids_to_keep, is_to_keep, kept_with_doubt, to_append}
use Rattle.soc_desk.specs.Log.{Change, Kept, KeptReport, report, keep, events, IsLegal}
use Rattle.soc_desk.specs.State.{State, doubted, settled, Survives, entry_of, entries_of, kept_of}
use Rattle.soc_ledger.specs.State.{LedgerState}
use Rattle.soc_book.specs.inner.Books.{IsRowFor}
use Rattle.soc_book.specs.declared.keep.Batch.{Batch}
use Rattle.soc_book.specs.inner.Stands.{AreHeld, AreReports, most_together}

-- ---- the entry of a report

abbrev pub own_report : List ℕ → List ℕ → List Cell → KeptReport
own_report id digest row = record { id = id; digest = digest; row = row }

-- the entry is that of a report with this row, which tells of the crash, and its body has at most so many bytes
pub record IsEntryOfRow (made : KeptReport) (product : Option (List ℕ)) (most : ℕ) (entry : Entry) : Type 0 where
  pub is : entry ≡ entry_of (report made)
  pub has_text : HasText made.row (row_text made.row)
  pub tells : IsRowFor made.id product made.row
  pub sized : length entry.body ≡ 68 + length (row_text made.row)
  pub fits : 68 + length (row_text made.row) ≤ most

-- there is a row that tells of the crash, and the body of its entry has at most so many bytes
abbrev pub MayMakeEntry : Option (List Cell) → List ℕ → Option (List ℕ) → ℕ → Type 0
MayMakeEntry None id product most = ⊥
MayMakeEntry (Some row) id product most = (68 + length (row_text row) ≤ most) × IsRowFor id product row

-- the entry of a row, where there is one that tells of the crash and whose entry's body has at most so many bytes
abbrev pub MakesEntry : Option (List Cell) → List ℕ → Option (List ℕ) → List ℕ → ℕ → Option Entry → Type 0
MakesEntry None id product digest most entry = entry ≡ None
MakesEntry (Some row) id product digest most None = (most < 68 + length (row_text row)) ⊎ ¬ (IsRowFor id product row)
MakesEntry (Some row) id product digest most (Some entry) = IsEntryOfRow (own_report id digest row) product most entry

-- a body of at most so many bytes has room behind this place, and a longer one hasn't or is longer than an entry's may be
pub record IsMost (behind limit most : ℕ) : Type 0 where
  pub few : most ≤ max_body
  pub room : 0 < most → behind + beside_body + most ≤ limit
  pub no_more : (most ≡ max_body) ⊎ (limit ≤ behind + beside_body + most)

-- ---- which crashes

-- the crash of the id is held, and its report is to be kept
abbrev pub is_wanted : List Event → List ℕ → Bool
is_wanted log id = is_held log id && is_to_keep log id

-- ---- every crash

-- the crashes from this number on whose reports are to be kept
abbrev pub rest_ids : List Event → ℕ → List (List ℕ)
rest_ids log number = filter (is_wanted log) (drop number (accepted_ids log))

-- the log with these changes
abbrev pub with_all : List Change → List Kept → List Change
with_all log changes = log ++ map keep changes

-- reports of the crashes from one number on to another, in order, behind which those from the second number on are left
pub record KeepsOn (basis : Basis) (log : List Change) (from to : ℕ) (reports : List Kept) : Type 0 where
  pub ids : List (List ℕ)
  pub events_are : events basis (map keep reports) ≡ map (λ id. E.Reported id true) ids
  pub count : length reports ≡ length ids
  pub among : (more : List (List ℕ)) → IsPartOf more (rest_ids (events basis (with_all log reports)) to) → IsPartOf (ids ++ more) (rest_ids (events basis log) from)
  pub keeps : IsTrue basis.is_told
      → to_append basis log (rest_ids (events basis log) from) ≡ reports ++ to_append basis (with_all log reports) (rest_ids (events basis (with_all log reports)) to)

-- so many reports were kept before this number
pub record KeptSoFar (basis : Basis) (log : List Change) (number count : ℕ) (reports : List Kept) (disk disk' : DiskTold) : Type 0 where
  pub kept : KeepsOn basis log 0 number reports
  pub count_is : count ≡ length reports
  pub goes_on : GoesOn disk disk'
  pub survives : IsTrue basis.is_told → LeavesOnly disk disk' (StandsBetween (kept_of log) (kept_of (with_all log reports)))

-- These are the reports, of the crashes from one number on to another, that are to be kept and have room, in order: each may
-- follow those before it. The crashes from the second number on are to be kept as before.
pub record HasGathered (basis : Basis) (log : List Change) (ledger : LedgerState) (from to : ℕ) (numbers : List ℕ) (entries : List Entry) (reports : List Kept) : Type 0 where
  pub are : AreReports basis log ledger numbers reports
  pub entries_are : entries ≡ entries_of reports
  pub legal : IsLegal basis (with_all log reports)
  pub count : length numbers ≡ length reports
  pub kept : KeepsOn basis log from to reports
  pub same : (number : ℕ) (id : List ℕ) → to ≤ number → slice_get (accepted_ids (events basis log)) number ≡ Some id
      → is_wanted (events basis (with_all log reports)) id ≡ is_wanted (events basis log) id

-- some reports of the crashes from this number on are to be appended
abbrev pub LeavesSome : Basis → List Change → ℕ → Type 0
LeavesSome basis log number = IsTrue basis.is_told → to_append basis log (rest_ids (events basis log) number) ≢ []

-- the reports are the same
pub record IsSameBatch (before after : Batch) : Type 0 where
  pub entries : after.entries.items ≡ before.entries.items
  pub numbers : after.numbers.items ≡ before.numbers.items
  pub bytes : after.bytes ≡ before.bytes

-- a batch: its bytes are counted, each report has a number of a held crash, they aren't too many, and the journal has room
pub record IsBatch (ledger : LedgerState) (journal : JournalState) (batch : Batch) : Type 0 where
  pub bytes_are : batch.bytes ≡ length (entries_text batch.entries.items)
  pub same_count : length batch.entries.items ≡ length batch.numbers.items
  pub few : length batch.numbers.items ≤ most_together
  pub held : AreHeld ledger batch.numbers.items
  pub room : 0 < length batch.entries.items → journal.gate + length (sealed_all batch.entries.items) ≤ journal.limit

-- the reports of a batch are written, all of them; their write failed; or an allocation did
abbrev pub EndsBatch : List Change → List Kept → Result ℕ Refusal → State → DiskTold → DiskTold → Type 0
EndsBatch log reports (Ok count) after disk disk' = after ≡ settled (with_all log reports)
EndsBatch log reports (Err F.StoreFault) after disk disk' =
    (reports ≢ []) × (after ≡ record { log = log; doubt = reports }) × DiskFailed disk disk'
EndsBatch log reports (Err F.NoMemory) after disk disk' = (reports ≢ []) × (after ≡ settled log)
EndsBatch log reports (Err _) after disk disk' = ⊥

pub record KeepsBatch (basis : Basis) (log : List Change) (disk : DiskTold) (reports : List Kept) (result : Result ℕ Refusal) (after : State) (disk' : DiskTold) : Type 0 where
  pub ends : EndsBatch log reports result after disk disk'
  pub goes_on : GoesOn disk disk'
  pub survives : IsTrue basis.is_told → Survives disk disk' (settled log) after

abbrev pub keep_reply : Result ℕ Refusal → Reply
keep_reply (Ok count) = R.Kept count
keep_reply (Err refusal) = R.Refused refusal

pub record KeepsAll (basis : Basis) (log : List Change) (disk : DiskTold) (answer : Result ℕ Refusal) (after : State) (disk' : DiskTold) : Type 0 where
  pub piece : List Change
  pub behind : after.log ≡ log ++ piece
  pub reports : Reports basis (keep_reply answer) (doubted basis after) (events basis log) (events basis piece)
  pub goes_on : GoesOn disk disk'
  pub fault : IsStoreFault (keep_reply answer) → DiskFailed disk disk'
  pub keeps : IsTrue basis.is_told → KeepsFirst log (to_append basis log (ids_to_keep basis log)) (keep_reply answer) after
  pub survives : IsTrue basis.is_told → LeavesOnly disk disk' (StandsBetween (kept_of log) (kept_with_doubt after))
