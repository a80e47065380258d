-- What follows from the desk's definitions, for every log.
use Rattle.std.specs.Prelude.{◌≡◌, ◌≢◌, ◌⊎◌, Option, Some, ℕ, Bool, true, false, not, ◌&&◌, ◌||◌, IsTrue, List, [], ◌∷◌, ◌++◌, map, reverse, None, IfSome, IsSomeAnd, is_some, if◌then◌else◌, bytes_eq, ⊤}
use Rattle.std.specs.List.{AllByRecursion, list_any}
use Rattle.std.specs.Option.{option_map}
use Rattle.sha2.specs.Sha256.{sha256}
use Rattle.soc_base.specs.Names.{value_of}
use Rattle.soc_raw.specs.RawCrash.{crash_of}
use Rattle.soc_raw.specs.Record.{Crash, content_text}
use Rattle.soc_raw.specs.declared.raw_crash.RawCrash.{RawCrash}
use Rattle.soc_schema.specs.declared.caller.Caller.{Caller}
use Rattle.soc_schema.specs.declared.value.Cell.{Cell}
use Rattle.soc_schema.specs.Permits.{shows, granted_cells}
use Rattle.soc_schema.specs.Reports.{product_of}
use Rattle.soc_edge.specs.Disk.{DiskTold, GoesOn, LeavesOnly}
use Rattle.soc_ledger.specs.declared.event.Event.{Event}
use Rattle.soc_ledger.specs.declared.event.Event.TheVariants as E
use Rattle.soc_ledger.specs.Due.{due_ids, is_due, is_due_at_once, due_since_back}
use Rattle.soc_ledger.specs.Events.{is_held, was_accepted, was_withdrawn}
use Rattle.soc_ledger.specs.Legal.{IsLegal as AreLegal}
use Rattle.soc_desk.specs.declared.desk.Command.{Command}
use Rattle.soc_desk.specs.declared.desk.Command.TheVariants as C
use Rattle.soc_desk.specs.declared.desk.Reply.{Reply}
use Rattle.soc_desk.specs.declared.desk.Reply.TheVariants as R
use Rattle.soc_desk.specs.declared.desk.Refusal.TheVariants.{OtherContent, NoMemory}
use Rattle.soc_desk.specs.Asks.{Gains}
use Rattle.soc_desk.specs.Basis.{Basis}
use Rattle.soc_desk.specs.Decisions.{accepting}
use Rattle.soc_desk.specs.Desk.{Step}
use Rattle.soc_desk.specs.Log.{Accepted, Kept, accept, ask, withdraw, report, Change, keep, done, stop, events, raw_of, row_in, IsLegal}
use Rattle.soc_desk.specs.Reads.{read_reply}
use Rattle.soc_desk.specs.State.{State, StandsFor, IsLegalState, kept_of, settled}
use Rattle.soc_desk.specs.View.{view_of}

-- ---- which crashes a caller sees

-- the caller's view has no crash of this id
abbrev pub IsAbsent : Basis → List Change → Caller → List ℕ → Type 0
IsAbsent basis log caller id = value_of (view_of basis log caller) id ≡ None

-- the accepted crash's product isn't shown to the caller
abbrev pub IsHidden : Caller → Accepted → Type 0
IsHidden caller crash = IfSome crash.raw (λ raw. shows caller.products (product_of raw) ≡ false)

-- hidden, withdrawn and absent crashes are in no view
pub record HidesCrashes : Type 0 where
  pub hidden : (basis : Basis) (log : List Change) (caller : Caller) (id : List ℕ) → IsLegal basis log
      → IsSomeAnd (raw_of log id) (λ raw. shows caller.products (product_of raw) ≡ false) → IsAbsent basis log caller id
  pub withdrawn : (basis : Basis) (log : List Change) (caller : Caller) (id : List ℕ) → IsTrue (was_withdrawn (events basis log) id)
      → IsAbsent basis log caller id
  pub absent : (basis : Basis) (log : List Change) (caller : Caller) (id : List ℕ) → IsTrue (not (was_accepted (events basis log) id))
      → IsAbsent basis log caller id

-- the change is of a crash that the caller doesn't see, before or after it
abbrev pub IsUnseen : Basis → List Change → Caller → Change → Type 0
IsUnseen basis log caller (keep (accept crash)) = IsHidden caller crash
IsUnseen basis log caller (keep (ask id)) = IsAbsent basis log caller id
IsUnseen basis log caller (keep (withdraw id)) = IsAbsent basis log caller id
IsUnseen basis log caller (keep (report made)) = IsAbsent basis log caller made.id
IsUnseen basis log caller (done id) = IsAbsent basis log caller id
IsUnseen basis log caller stop = ⊤

-- a legal log that gains such a change has the same view
abbrev pub KeepsViews : Type 0
KeepsViews = (basis : Basis) (log : List Change) (caller : Caller) (change : Change) → IsLegal basis (log ++ change ∷ [])
    → IsUnseen basis log caller change → view_of basis (log ++ change ∷ []) caller ≡ view_of basis log caller

-- ---- fields that aren't granted

abbrev pub with_row : (List Cell → List Cell) → Change → Change
with_row f (keep (report made)) = keep (report (record made { row = f made.row }))
with_row f (keep (accept crash)) = keep (accept crash)
with_row f (keep (ask id)) = keep (ask id)
with_row f (keep (withdraw id)) = keep (withdraw id)
with_row f (done id) = done id
with_row f stop = stop

-- a log whose rows differ only in fields that aren't granted to the caller has the same view
abbrev pub HidesFields : Type 0
HidesFields = (basis : Basis) (log : List Change) (caller : Caller) (f : List Cell → List Cell)
    → ((row : List Cell) → granted_cells caller (f row) ≡ granted_cells caller row)
    → view_of (record basis { row_of = λ crash. f (basis.row_of crash) }) (map (with_row f) log) caller ≡ view_of basis log caller

-- under equal views every read has the same reply
abbrev pub ReadsShowTheView : Type 0
ReadsShowTheView = (basis basis' : Basis) (log log' : List Change) (caller : Caller) (command : Command)
    → view_of basis log caller ≡ view_of basis' log' caller
    → read_reply (view_of basis log caller) command ≡ read_reply (view_of basis' log' caller) command

-- ---- what is due

abbrev pub is_ask_of : List ℕ → Event → Bool
is_ask_of id (E.Asked other) = bytes_eq other id
is_ask_of id _ = false

abbrev pub was_asked : List Event → List ℕ → Bool
was_asked log id = list_any (is_ask_of id) log

-- of events of which the newest comes first: the crash was processed, or a report counted so, and was neither accepted nor
-- asked for since
abbrev pub processed_since : List ℕ → List Event → Bool
processed_since id [] = false
processed_since id (E.Accepted other ∷ older) = if bytes_eq other id then false else processed_since id older
processed_since id (E.Asked other ∷ older) = if bytes_eq other id then false else processed_since id older
processed_since id (E.Done other ∷ older) = bytes_eq other id || processed_since id older
processed_since id (E.Reported other own ∷ older) = (bytes_eq other id && (own && is_some (due_since_back id older))) || processed_since id older
processed_since id (E.Withdrawn other ∷ older) = processed_since id older
processed_since id (E.Stopped ∷ older) = processed_since id older

-- on legal logs the due crashes are the held ones of digit 0 or asked for that weren't processed since
abbrev pub DueByHistory : Type 0
DueByHistory = (log : List Event) (id : List ℕ) → AreLegal log
    → is_due log id ≡ (is_held log id && ((is_due_at_once id || was_asked log id) && not (processed_since id (reverse log))))

-- a whole drain leaves nothing due, and each crash that was due has the reporter's row of its raw crash
pub record IsDrained (basis : Basis) (log after : List Change) : Type 0 where
  pub nothing_due : due_ids (events basis after) ≡ []
  pub rows : AllByRecursion (λ id. row_in basis after id ≡ option_map basis.row_of (raw_of log id)) (due_ids (events basis log))

abbrev pub DrainsAll : Type 0
DrainsAll = (basis : Basis) (log : List Change) → IsDrained basis log (log ++ map done (due_ids (events basis log)))

-- ---- steps

-- Without a doubt, a submission whose content has another digest than that of the held crash of its id is refused as other
-- content, whatever the disk does, or for want of memory.
abbrev pub DigestsDecide : Type 0
DigestsDecide = (basis : Basis) (log : List Change) (raw : RawCrash) (held : Crash) (reply : Reply) (after : State)
    → IsTrue (is_held (events basis log) raw.id) → raw_of log raw.id ≡ Some held → sha256 (content_text held) ≢ sha256 (content_text (crash_of raw))
    → Step basis (settled log) (C.Submit raw) reply after → (reply ≡ R.Refused (OtherContent raw.id)) ⊎ (reply ≡ R.Refused NoMemory)

-- the log before a step is a front of the one after it, and what is behind it is what the command adds
abbrev pub StepsGrow : Type 0
StepsGrow = (basis : Basis) (before : State) (command : Command) (reply : Reply) (after : State) → IsTrue basis.is_told
    → IsLegalState basis before → Step basis before command reply after → Gains basis before command reply after

-- the change whose writing a reply acknowledges
abbrev pub acknowledged : Command → Reply → Option Kept
acknowledged (C.Submit raw) (R.Stored id due) = Some (accepting (crash_of raw))
acknowledged (C.Priority caller id) (R.Asked true due) = Some (ask id)
acknowledged (C.Reprocess caller id) (R.Asked asked due) = Some (ask id)
acknowledged (C.Withdraw caller id) R.Withdrawn = Some (withdraw id)
acknowledged _ _ = None

-- an acknowledged change is the log's last
abbrev pub Acknowledges : Type 0
Acknowledges = (basis : Basis) (before : State) (command : Command) (reply : Reply) (after : State) → Step basis before command reply after
    → IfSome (acknowledged command reply) (λ change. (log : List Change) × (after.log ≡ log ++ keep change ∷ []))

-- ---- stops

-- the image stands for these changes, or for these and others behind them
abbrev pub HasAll : List Kept → List ℕ → Type 0
HasAll changes image = (more : List Kept) × StandsFor image (changes ++ more)

-- The log still has what it had, and so does each image that a stop from the moment before until the one after may leave.
pub record Lasts (before : State) (disk : DiskTold) (after : State) (disk' : DiskTold) : Type 0 where
  pub more : List Change
  pub behind : after.log ≡ before.log ++ more
  pub goes_on : GoesOn disk disk'
  pub leaves : LeavesOnly disk disk' (HasAll (kept_of before.log))
