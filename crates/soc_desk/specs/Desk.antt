-- The desk: one command, one step. A step settles a doubt where it writes, decides by the log, and changes it. This
-- project's profile. The relation speaks of disks that tell their content; what holds over any disk stands in `Kinds` and
-- `Grows`.
use Rattle.std.specs.Prelude.{◌≡◌, ◌≢◌, ◌⊎◌, ℕ, ◌<◌, Bool, true, false, if◌then◌else◌, IsTrue, List, [], ◌∷◌, ◌++◌, length, map, take, Option, None, Some, IsSomeAnd, MatchOption}
use Rattle.soc_raw.specs.RawCrash.{crash_of}
use Rattle.sha2.specs.Sha256.{sha256}
use Rattle.soc_raw.specs.Record.{Crash, content_text}
use Rattle.soc_schema.specs.declared.caller.Caller.{Caller}
use Rattle.soc_schema.specs.Reports.{Report}
use Rattle.soc_ledger.specs.Events.{is_held, has_stop}
use Rattle.soc_ledger.specs.Due.{due_ids, is_due}
use Rattle.soc_desk.specs.declared.desk.Command.{Command}
use Rattle.soc_desk.specs.declared.desk.Command.TheVariants as C
use Rattle.soc_desk.specs.declared.desk.Reply.{Reply}
use Rattle.soc_desk.specs.declared.desk.Reply.TheVariants as R
use Rattle.soc_desk.specs.declared.desk.Refusal.{Refusal}
use Rattle.soc_desk.specs.declared.desk.Refusal.TheVariants as F
use Rattle.soc_desk.specs.Basis.{Basis}
use Rattle.soc_desk.specs.Counts.{counts_of}
use Rattle.soc_desk.specs.Decisions.{Decision, answers, appends, decide, lacked}
use Rattle.soc_desk.specs.Log.{Kept, Change, keep, done, stop, events, raw_of}
use Rattle.soc_desk.specs.Reads.{read_reply}
use Rattle.soc_desk.specs.State.{State, settled, Settles, has_room}
use Rattle.soc_desk.specs.View.{view_of, is_in}

-- the first where the test holds, and else the second
abbrev pub IfElse : Bool → Type 0 → Type 0 → Type 0
IfElse true A B = A
IfElse false A B = B

-- the state stays, and the reply is this refusal
abbrev pub Refuses : State → Refusal → Reply → State → Type 0
Refuses before refusal reply after = (reply ≡ R.Refused refusal) × (after ≡ before)

-- refused for want of the permission, where the caller lacks it, and else this
abbrev pub IfPermitted : State → Command → Reply → State → Type 0 → Type 0
IfPermitted before command reply after P = MatchOption (lacked command) P (λ name. Refuses before (F.NoPermission name) reply after)

-- ---- commands that write

-- the change is written, or its write fails, or the journal has no room for it
abbrev pub Appends : Basis → List Change → Kept → Reply → Reply → State → Type 0
Appends basis log change written reply after =
    IfElse (has_room basis log change)
    (((reply ≡ written) × (after ≡ settled (log ++ keep change ∷ [])))
    ⊎ ((reply ≡ R.Refused F.StoreFault) × (after ≡ record { log = log; doubt = change ∷ [] })))
    ((reply ≡ R.Refused F.JournalFull) × (after ≡ settled log))

-- a settled log is answered as it decides
abbrev pub Decides : Basis → List Change → Decision → Reply → State → Type 0
Decides basis log (answers said) reply after = (reply ≡ said) × (after ≡ settled log)
Decides basis log (appends change written) reply after = Appends basis log change written reply after

-- the content of the held crash has the digest of the sent one, so that the disk is asked for it
abbrev pub IsCompared : Basis → List Change → Crash → Type 0
IsCompared basis log raw =
    IsTrue (is_held (events basis log) raw.id) × IsSomeAnd (raw_of log raw.id) (λ held. sha256 (content_text held) ≡ sha256 (content_text raw))

-- a submission whose content is compared with that of the crash of its id reads the disk, which may fail
abbrev pub FailsRead : Basis → List Change → Command → Reply → State → Type 0
FailsRead basis log (C.Submit raw) reply after =
    IsCompared basis log (crash_of raw) × (reply ≡ R.Refused F.StoreFault) × (after ≡ settled log)
FailsRead basis log _ reply after = ⊥

-- the doubt is settled, and the settled log decides
pub record SettlesAndDecides (basis : Basis) (before : State) (command : Command) (reply : Reply) (after : State) : Type 0 where
  pub log : List Change
  pub settles : Settles before.log before.doubt log
  pub decides : IsSomeAnd (decide basis log command) (λ decision. Decides basis log decision reply after) ⊎ FailsRead basis log command reply after

-- a failed mend leaves the state
abbrev pub FailsMend : State → Reply → State → Type 0
FailsMend before reply after = (before.doubt ≢ []) × Refuses before F.StoreFault reply after

abbrev pub StepWriting : Basis → State → Command → Reply → State → Type 0
StepWriting basis before command reply after =
    IfPermitted before command reply after
    (Refuses before F.NoMemory reply after ⊎ (FailsMend before reply after ⊎ SettlesAndDecides basis before command reply after))

-- ---- reads

-- an allocation failed, or, where the raw crash is read, the disk did
abbrev pub Fails : State → Bool → Reply → State → Type 0
Fails before reads reply after =
    Refuses before F.NoMemory reply after ⊎ (IsTrue reads × Refuses before F.StoreFault reply after)

-- Answered by the caller's view. That memory or the disk failed shows only where the view has the crash.
abbrev pub StepReading : Basis → State → Caller → List ℕ → Bool → Command → Reply → State → Type 0
StepReading basis before caller id reads command reply after =
    let view = view_of basis before.log caller in
    IfPermitted before command reply after
    (((read_reply view command ≡ Some reply) × (after ≡ before)) ⊎ (IsTrue (is_in view id) × Fails before reads reply after))

-- a search reads no raw crash
abbrev pub StepSearching : Basis → State → Caller → Command → Reply → State → Type 0
StepSearching basis before caller command reply after =
    ((read_reply (view_of basis before.log caller) command ≡ Some reply) × (after ≡ before)) ⊎ Refuses before F.NoMemory reply after

-- the raw crash of the log was given
abbrev pub IsRecord : Option Crash → Reply → Type 0
IsRecord held (R.Record raw) = held ≡ Some (crash_of raw)
IsRecord held _ = ⊥

-- the raw crash of a crash that the caller's view has
abbrev pub StepRecord : Basis → State → Caller → List ℕ → Reply → State → Type 0
StepRecord basis before caller id reply after =
    IfElse (is_in (view_of basis before.log caller) id)
    ((IsRecord (raw_of before.log id) reply × (after ≡ before)) ⊎ Fails before true reply after)
    (Refuses before F.NoCrash reply after)

abbrev pub StepCounts : Basis → State → Reply → State → Type 0
StepCounts basis before reply after = (reply ≡ R.Counted (counts_of basis before)) × (after ≡ before)

-- ---- processing

-- these crashes were processed
abbrev pub with_done : State → List (List ℕ) → State
with_done state ids = record state { log = state.log ++ map done ids }

abbrev pub TurnsFirst : State → List (List ℕ) → Reply → State → Type 0
TurnsFirst before [] reply after = (reply ≡ R.Turned None) × (after ≡ before)
TurnsFirst before (id ∷ later) reply after =
    ((reply ≡ R.Turned (Some id)) × (after ≡ with_done before (id ∷ []))) ⊎ Fails before true reply after

-- some of the due crashes were processed, and not all
abbrev pub TurnsSome : State → List (List ℕ) → State → Type 0
TurnsSome before due after = (turns : ℕ) × (turns < length due) × (after ≡ with_done before (take turns due))

abbrev pub DrainsAll : State → List (List ℕ) → Reply → State → Type 0
DrainsAll before due (R.Drained count) after = (count ≡ length due) × (after ≡ with_done before due)
DrainsAll before due (R.Refused F.NoMemory) after = TurnsSome before due after
DrainsAll before due (R.Refused F.StoreFault) after = TurnsSome before due after
DrainsAll before due _ after = ⊥

abbrev pub StepStop : Basis → State → Reply → State → Type 0
StepStop basis before reply after =
    Refuses before F.NoMemory reply after
    ⊎ ((reply ≡ R.Stopping) × (after ≡ (if has_stop (events basis before.log) then before else record before { log = before.log ++ stop ∷ [] })))

-- the raw crash of the log was handed out
abbrev pub IsFetched : Option Crash → Reply → Type 0
IsFetched held (R.Fetched (Some raw)) = held ≡ Some (crash_of raw)
IsFetched held _ = ⊥

abbrev pub StepFetch : Basis → State → List ℕ → Reply → State → Type 0
StepFetch basis before id reply after =
    IfElse (is_due (events basis before.log) id)
    ((IsFetched (raw_of before.log id) reply × (after ≡ before)) ⊎ Fails before true reply after)
    ((reply ≡ (if is_held (events basis before.log) id then R.Fetched None else R.Refused F.NoCrash)) × (after ≡ before))

-- the processed crash is one of the log, and its row is the reporter's
pub record IsOfLog (basis : Basis) (log : List Change) (processed : Report) : Type 0 where
  pub raw : raw_of log processed.crash.id ≡ Some processed.crash
  pub row : processed.row ≡ basis.row_of processed.crash

abbrev pub StepFinish : Basis → State → List ℕ → Reply → State → Type 0
StepFinish basis before id reply after =
    Refuses before F.NoMemory reply after
    ⊎ IfElse (is_due (events basis before.log) id)
    ((reply ≡ R.Finished true) × (after ≡ with_done before (id ∷ [])))
    ((reply ≡ R.Finished false) × (after ≡ before))

-- ---- steps and runs

abbrev pub Step : Basis → State → Command → Reply → State → Type 0
Step basis before (C.Submit raw) reply after = StepWriting basis before (C.Submit raw) reply after
Step basis before (C.Priority caller id) reply after = StepWriting basis before (C.Priority caller id) reply after
Step basis before (C.Reprocess caller id) reply after = StepWriting basis before (C.Reprocess caller id) reply after
Step basis before (C.Withdraw caller id) reply after = StepWriting basis before (C.Withdraw caller id) reply after
Step basis before (C.Raw caller id) reply after = StepReading basis before caller id true (C.Raw caller id) reply after
Step basis before (C.Processed caller id) reply after = StepReading basis before caller id false (C.Processed caller id) reply after
Step basis before (C.Dump caller id name) reply after = StepReading basis before caller id true (C.Dump caller id name) reply after
Step basis before (C.Stack caller id) reply after = StepRecord basis before caller id reply after
Step basis before (C.Search query) reply after = StepSearching basis before query.caller (C.Search query) reply after
Step basis before (C.Tops query) reply after = StepSearching basis before query.caller (C.Tops query) reply after
Step basis before (C.Turn caller) reply after =
    IfPermitted before (C.Turn caller) reply after (TurnsFirst before (due_ids (events basis before.log)) reply after)
Step basis before (C.Drain caller) reply after =
    IfPermitted before (C.Drain caller) reply after (DrainsAll before (due_ids (events basis before.log)) reply after)
Step basis before (C.Stop caller) reply after = IfPermitted before (C.Stop caller) reply after (StepStop basis before reply after)
Step basis before (C.Fetch id) reply after = StepFetch basis before id reply after
Step basis before (C.Finish processed) reply after = StepFinish basis before processed.crash.id reply after
Step basis before (C.Counts caller) reply after = IfPermitted before (C.Counts caller) reply after (StepCounts basis before reply after)
