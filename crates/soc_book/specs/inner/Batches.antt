-- New crashes that wait to be written together, and the commands that were carried out before them.
use Rattle.std.specs.Prelude.{◌≡◌, ℕ, ◌+◌, ◌<◌, ◌≤◌, ◌^◌, Bool, false, List, [], ◌∷◌, ◌++◌, length, map, flat_map, None, Result, Ok, Err, vec_len, vec_capacity, ⊤}
use Rattle.soc_raw.specs.RawCrash.{crash_of}
use Rattle.soc_raw.specs.declared.raw_crash.RawCrash.{RawCrash}
use Rattle.soc_schema.specs.declared.reporter.Reporter as reporter
use Rattle.soc_edge.specs.Disk.{DiskTold}
use Rattle.soc_edge.specs.declared.disk.Disk as disk
use Rattle.soc_journal.specs.Entries.{Entry, entry_text, entries_text, sealed_all}
use Rattle.soc_journal.specs.States.{JournalState}
use Rattle.soc_ledger.specs.Due.{is_due_at_once}
use Rattle.soc_ledger.specs.Events.{is_among, was_accepted}
use Rattle.soc_ledger.specs.State.{LedgerState}
use Rattle.soc_desk.specs.declared.desk.Command.{Command}
use Rattle.soc_desk.specs.declared.desk.Command.TheVariants as C
use Rattle.soc_desk.specs.declared.desk.Limits.{Limits}
use Rattle.soc_desk.specs.declared.desk.Receipt.{Receipt}
use Rattle.soc_desk.specs.declared.desk.Refusal.{Refusal}
use Rattle.soc_desk.specs.declared.desk.Reply.{Reply}
use Rattle.soc_desk.specs.declared.desk.Reply.TheVariants as R
use Rattle.soc_desk.specs.Basis.{Basis}
use Rattle.soc_desk.specs.Batches.{AsksGroups, Group, StoresAll, commands_in, receipts_in}
use Rattle.soc_desk.specs.State.{State}
use Rattle.soc_book.specs.declared.book.Book.{Book}
use Rattle.soc_book.specs.declared.prepared.Work.{Work}
use Rattle.soc_book.specs.declared.prepared.Work.TheVariants as W
use Rattle.soc_book.specs.declared.submission.NewCrash.{NewCrash}
use Rattle.soc_book.specs.declared.submission.Submission.{Submission}
use Rattle.soc_book.specs.declared.together.NewCrashes.{NewCrashes}
use Rattle.soc_book.specs.Books.{SameSetting, StandsFor, disk_in, disk_of, reporter_of}
use Rattle.soc_book.specs.inner.Books.{IsSubmissionOf}
use Rattle.soc_book.specs.inner.Stands.{FitNew, most_bytes, most_together}
use Rattle.soc_book.specs.inner.Steps.{Becomes}

-- ---- new crashes that wait

pub record IsEmpty (batch : NewCrashes) : Type 0 where
  pub ids : batch.ids.items ≡ []
  pub entries : batch.entries.items ≡ []
  pub crashes : batch.crashes.items ≡ []
  pub bytes : batch.bytes ≡ 0

pub record IsSameBatch (before after : NewCrashes) : Type 0 where
  pub ids : after.ids.items ≡ before.ids.items
  pub entries : after.entries.items ≡ before.entries.items
  pub crashes : after.crashes.items ≡ before.crashes.items
  pub bytes : after.bytes ≡ before.bytes

-- there is memory for one more
pub record HasMemory (batch : NewCrashes) : Type 0 where
  pub ids : vec_len batch.ids < vec_capacity batch.ids
  pub entries : vec_len batch.entries < vec_capacity batch.entries
  pub crashes : vec_len batch.crashes < vec_capacity batch.crashes

pub record AddsSubmission (before : NewCrashes) (made : Submission) (after : NewCrashes) : Type 0 where
  pub ids : after.ids.items ≡ before.ids.items ++ made.new.id ∷ []
  pub entries : after.entries.items ≡ before.entries.items ++ made.entry ∷ []
  pub crashes : after.crashes.items ≡ before.crashes.items ++ made.new ∷ []
  pub bytes : after.bytes ≡ before.bytes + length (entry_text made.entry)

abbrev pub Joins : NewCrashes → Work → NewCrashes → Type 0
Joins before (W.Submit raw (Ok made)) after = AddsSubmission before made after
Joins before _ after = ⊥

-- no doubt is to be settled before they are written, and ledger, journal and limits have room for them
pub record FitsAll (ledger : LedgerState) (journal : JournalState) (limits : Limits) (batch : NewCrashes) : Type 0 where
  pub settled : journal.doubt ≡ None
  pub fit : FitNew ledger batch.crashes.items
  pub few : length ledger.crashes + length batch.crashes.items ≤ limits.crashes
  pub room : journal.gate + length (sealed_all batch.entries.items) ≤ journal.limit

-- they may be written together, where there are any
pub record MayStore (ledger : LedgerState) (journal : JournalState) (limits : Limits) (batch : NewCrashes) : Type 0 where
  pub ids_are : batch.ids.items ≡ map (λ new. new.id) batch.crashes.items
  pub same_count : length batch.entries.items ≡ length batch.crashes.items
  pub bytes_are : batch.bytes ≡ length (entries_text batch.entries.items)
  pub fits : 0 < length batch.ids.items → FitsAll ledger journal limits batch

-- an entry of so many bytes fits behind them
pub record FitsBehind (ledger : LedgerState) (journal : JournalState) (limits : Limits) (batch : NewCrashes) (size : ℕ) : Type 0 where
  pub settled : journal.doubt ≡ None
  pub count : length batch.ids.items < most_together
  pub bytes : batch.bytes < most_bytes
  pub few : length ledger.crashes + length batch.ids.items < limits.crashes
  pub below : limits.crashes < 2 ^ 32
  pub room : journal.gate + batch.bytes + size < journal.limit
  pub short : batch.bytes + size < 2 ^ 64

-- and it is of a new crash
pub record HasPlace (ledger : LedgerState) (journal : JournalState) (limits : Limits) (batch : NewCrashes) (made : Submission) : Type 0 where
  pub fits : FitsBehind ledger journal limits batch (length (entry_text made.entry))
  pub accepted : was_accepted ledger.log made.new.id ≡ false
  pub among : is_among batch.ids.items made.new.id ≡ false

-- they were made of these raw crashes
abbrev pub AreMadeOf : List RawCrash → List NewCrash → List Entry → Type 0
AreMadeOf [] [] [] = ⊤
AreMadeOf (raw ∷ raws) (new ∷ news) (entry ∷ entries) = IsSubmissionOf (record { new = new; entry = entry }) (crash_of raw) × AreMadeOf raws news entries
AreMadeOf _ _ _ = ⊥

-- ---- their receipts

abbrev pub reply_to : Result (Unit {0}) Refusal → List ℕ → Reply
reply_to (Ok _) id = R.Stored id (is_due_at_once id)
reply_to (Err refusal) id = R.Refused refusal

abbrev pub receipt_of : ℕ → Bool → Result (Unit {0}) Refusal → List ℕ → Receipt
receipt_of front stopped written id = record { front = front; stopped = stopped; reply = reply_to written id }

-- ---- commands

-- commands came to receipts in groups, whatever groups follow
pub record Leads {D : Type 0} (told : D → DiskTold) (basis : Basis) (state : State) (disk : D) (commands : List Command) (receipts : List Receipt) (between : State) (disk' : D) : Type 0 where
  pub groups : List Group
  pub commands_are : flat_map commands_in groups ≡ commands
  pub receipts_are : flat_map receipts_in groups ≡ receipts
  pub leads : (rest : List Group) (after : State) (last : D) → AsksGroups told basis between disk' rest after last → AsksGroups told basis state disk (groups ++ rest) after last

module _ {D R : Type 0} {d : disk.Ghosts D} {r : reporter.Ghosts R} where
  -- the same of a book
  abbrev pub AsksInTurn : Book D R d r → List Command → List Receipt → Book D R d r → Type 0
  AsksInTurn before commands receipts now = (basis : Basis) (state : State) → basis.row_of ≡ r.row_of (reporter_of before) → StandsFor basis before state
      → Becomes basis now (λ between. Leads d.state basis state (disk_in before) commands receipts between (disk_in now))

  -- The last of these commands submit the crashes that wait; the others were carried out.
  pub record IsUnderWay (before : Book D R d r) (commands : List Command) (receipts : List Receipt) (now : Book D R d r) (batch : NewCrashes) : Type 0 where
    pub raws : List RawCrash
    pub made : AreMadeOf raws batch.crashes.items batch.entries.items
    pub done : List Command
    pub all : commands ≡ done ++ map C.Submit raws
    pub asked : AsksInTurn before done receipts now
    pub setting : SameSetting before now

  -- so it is with some more commands
  abbrev pub GoesOnWith : Book D R d r → NewCrashes → List Receipt → List Command → Book D R d r → NewCrashes → List Receipt → Type 0
  GoesOnWith now batch receipts more later batch' receipts' = (before : Book D R d r) (commands : List Command)
      → IsUnderWay before commands receipts now batch → IsUnderWay before (commands ++ more) receipts' later batch'

  -- the crashes that wait are written together
  abbrev pub StoresBook : Book D R d r → NewCrashes → List Receipt → Book D R d r → List Receipt → Type 0
  StoresBook now batch receipts later receipts' = (basis : Basis) (state : State) (raws : List RawCrash) → StandsFor basis now state
      → AreMadeOf raws batch.crashes.items batch.entries.items
      → Becomes basis later (λ after. (own : List Receipt) × (receipts' ≡ receipts ++ own) × StoresAll basis state (disk_of now) raws own after (disk_of later))
