-- What the pieces of a book's commands do.
use Rattle.std.specs.Prelude.{◌≡◌, ◌≢◌, ◌⊎◌, ℕ, ◌<◌, true, false, IsTrue, List, [], ◌∷◌, ◌++◌, length, map, slice_get, Option, Some, Result, Ok, Err, ⊤}
use Rattle.std.specs.Option.{option_and_then}
use Rattle.soc_raw.specs.RawCrash.{crash_of, record_text}
use Rattle.soc_raw.specs.Record.{Crash, IsCrash, record_of}
use Rattle.soc_raw.specs.declared.raw_crash.RawCrash.{RawCrash}
use Rattle.soc_schema.specs.declared.caller.Caller.{Caller}
use Rattle.soc_schema.specs.Permits.{shows}
use Rattle.soc_edge.specs.Disk.{DiskTold, GoesOn, DiskFailed}
use Rattle.soc_ledger.specs.State.{LedgerState, id_of}
use Rattle.soc_ledger.specs.Events.{is_held}
use Rattle.soc_desk.specs.declared.desk.Reply.{Reply}
use Rattle.soc_desk.specs.declared.desk.Reply.TheVariants as R
use Rattle.soc_desk.specs.declared.desk.Refusal.{Refusal}
use Rattle.soc_desk.specs.declared.desk.Refusal.TheVariants as F
use Rattle.soc_desk.specs.Basis.{Basis}
use Rattle.soc_desk.specs.Kinds.{RefusesReading, RefusesWrite}
use Rattle.soc_desk.specs.Log.{Kept, Change, keep, raw_of}
use Rattle.soc_desk.specs.State.{State, settled, Settles, Survives}
use Rattle.soc_book.specs.inner.Stands.{HasRoom}

-- ---- looking a crash up

-- the crash of the number has this id, and is held
pub record IsHeldAs (ledger : LedgerState) (id : List ℕ) (number : ℕ) : Type 0 where
  pub within : number < length ledger.crashes
  pub id_is : id_of ledger number ≡ id
  pub held : is_held ledger.log id ≡ true

-- its product, where it has one
abbrev pub product_at : LedgerState → ℕ → Option (List ℕ)
product_at ledger number = option_and_then (λ filed. filed.product) (slice_get ledger.crashes number)

-- the number of a held crash that is shown to the caller; else none is held, or one that isn't shown
abbrev pub Sees : LedgerState → Caller → List ℕ → Result ℕ Refusal → Type 0
Sees ledger caller id (Ok number) = IsHeldAs ledger id number × (shows caller.products (product_at ledger number) ≡ true)
Sees ledger caller id (Err F.NoCrash) =
    (is_held ledger.log id ≡ false) ⊎ ((number : ℕ) × IsHeldAs ledger id number × (shows caller.products (product_at ledger number) ≡ false))
Sees ledger caller id (Err _) = ⊥

-- ---- reading

-- the raw crash of an id whose record the bytes are, or that they are none
abbrev pub Decodes : List ℕ → List ℕ → Result RawCrash Refusal → Type 0
Decodes id bytes (Ok raw) = (raw.id ≡ id) × (record_text raw ≡ bytes) × IsCrash (crash_of raw)
Decodes id bytes (Err (F.Altered other)) = (other ≡ id) × ((crash : Crash) → IsCrash crash → crash.id ≡ id → record_of crash ≡ bytes → ⊥)
Decodes id bytes (Err F.NoMemory) = ⊤
Decodes id bytes (Err _) = ⊥

-- the raw crash of the log, where the disk tells it, or why it isn't read
abbrev pub IsRead : Basis → List Change → List ℕ → Result RawCrash Refusal → DiskTold → DiskTold → Type 0
IsRead basis log id (Ok raw) disk disk' = (raw.id ≡ id) × (IsTrue basis.is_told → raw_of log id ≡ Some (crash_of raw))
IsRead basis log id (Err F.StoreFault) disk disk' = DiskFailed disk disk'
IsRead basis log id (Err (F.Altered other)) disk disk' = (other ≡ id) × (basis.is_told ≡ false)
IsRead basis log id (Err F.NoMemory) disk disk' = ⊤
IsRead basis log id _ disk disk' = ⊥

-- whatever the disk tells
abbrev pub IsReading : List ℕ → Result RawCrash Refusal → Type 0
IsReading id (Ok raw) = raw.id ≡ id
IsReading id (Err refusal) = RefusesReading id refusal

-- ---- settling

-- The state stays, since memory ran out or the disk failed. `Now` says that the tables stand for a state now.
abbrev pub Stays : State → DiskTold → DiskTold → Refusal → (State → Type 0) → Type 0
Stays state disk disk' F.StoreFault Now = (state.doubt ≢ []) × DiskFailed disk disk' × Now state
Stays state disk disk' F.NoMemory Now = Now state
Stays state disk disk' _ Now = ⊥

-- the log that the doubt was settled to stands, or the state stays
abbrev pub Begins : {A : Type 0} → State → DiskTold → DiskTold → Result A Refusal → (State → Type 0) → Type 0
Begins state disk disk' (Ok _) Now = (log : List Change) × Settles state.log state.doubt log × Now (settled log)
Begins state disk disk' (Err refusal) Now = Stays state disk disk' refusal Now

-- ---- appending

-- changes are written, all of them, their write failed, or the journal has no room for them
abbrev pub EndsAs : Basis → List Change → List Kept → Result (Unit {0}) Refusal → State → DiskTold → DiskTold → Type 0
EndsAs basis log changes (Ok _) after disk disk' =
    (after ≡ settled (log ++ map keep changes)) × (IsTrue basis.is_told → HasRoom basis log changes)
EndsAs basis log changes (Err F.StoreFault) after disk disk' =
    (after ≡ record { log = log; doubt = changes }) × DiskFailed disk disk' × (IsTrue basis.is_told → HasRoom basis log changes)
EndsAs basis log changes (Err F.JournalFull) after disk disk' =
    (after ≡ settled log) × (IsTrue basis.is_told → ¬ (HasRoom basis log changes))
EndsAs basis log changes (Err _) after disk disk' = ⊥

pub record AreAppended (basis : Basis) (log : List Change) (disk : DiskTold) (changes : List Kept) (result : Result (Unit {0}) Refusal) (after : State) (disk' : DiskTold) : Type 0 where
  pub ends : EndsAs basis log changes result after disk disk'
  pub goes_on : GoesOn disk disk'
  pub survives : IsTrue basis.is_told → Survives disk disk' (settled log) after

-- the same with the reply to a change that is written
abbrev pub RepliesAs : Result (Unit {0}) Refusal → Reply → Reply → Type 0
RepliesAs (Ok _) written reply = reply ≡ written
RepliesAs (Err refusal) written reply = reply ≡ R.Refused refusal

pub record IsWritten (basis : Basis) (log : List Change) (disk : DiskTold) (change : Kept) (written reply : Reply) (after : State) (disk' : DiskTold) : Type 0 where
  pub result : Result (Unit {0}) Refusal
  pub appended : AreAppended basis log disk (change ∷ []) result after disk'
  pub replies : RepliesAs result written reply

-- the reply to a change that is written, or a refusal of what is written to the journal
abbrev pub IsWriteReply : Reply → Reply → Type 0
IsWriteReply written reply = (reply ≡ written) ⊎ ((refusal : Refusal) × RefusesWrite refusal × (reply ≡ R.Refused refusal))
