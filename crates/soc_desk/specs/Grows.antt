-- What a command's reply says of the log, and what the command adds to it, without contents. It holds whatever the disk
-- tells.
use Rattle.std.specs.Prelude.{◌≡◌, ◌≢◌, ◌⊎◌, ℕ, ◌<◌, nat_le, Bool, true, false, not, ◌||◌, ◌&&◌, IsTrue, List, [], ◌∷◌, ◌++◌, length, map, take, Option, None, Some, slice_get, ⊤}
use Rattle.soc_schema.specs.declared.caller.Caller.{Caller}
use Rattle.soc_schema.specs.declared.caller.Products.{Products}
use Rattle.soc_schema.specs.declared.caller.Products.TheVariants.{All, Some as Only}
use Rattle.soc_ledger.specs.declared.event.Event.{Event}
use Rattle.soc_ledger.specs.declared.event.Event.TheVariants as E
use Rattle.soc_ledger.specs.Due.{due_ids, is_due}
use Rattle.soc_ledger.specs.Events.{is_held, was_accepted, was_withdrawn, has_stop, accepted_ids}
use Rattle.soc_ledger.specs.Reported.{has_report}
use Rattle.soc_desk.specs.declared.desk.Command.{Command}
use Rattle.soc_desk.specs.declared.desk.Command.TheVariants as C
use Rattle.soc_desk.specs.declared.desk.Reply.{Reply}
use Rattle.soc_desk.specs.declared.desk.Reply.TheVariants as R
use Rattle.soc_desk.specs.declared.desk.Refusal.{Refusal}
use Rattle.soc_desk.specs.declared.desk.Refusal.TheVariants as F
use Rattle.soc_desk.specs.Basis.{Basis}
use Rattle.soc_desk.specs.Counts.{counts_with}

-- ---- crashes that aren't found

abbrev pub sees_all : Products → Bool
sees_all All = true
sees_all (Only names) = false

-- Of a caller that sees every product: the crash isn't held. The log has no products, so of others nothing is said here.
abbrev pub IsGone : Caller → List ℕ → List Event → Type 0
IsGone caller id log = IsTrue (sees_all caller.products) → IsTrue (not (is_held log id))

-- ---- commands that write, of a settled log

abbrev pub is_new : List Event → List ℕ → Bool
is_new log id = not (was_accepted log id)

-- as many crashes were accepted as may be
abbrev pub is_full : Basis → List Event → Bool
is_full basis log = nat_le basis.crashes (length (accepted_ids log))

abbrev pub is_due_or_reported : List Event → List ℕ → Bool
is_due_or_reported log id = is_due log id || has_report log id

-- the write of this event failed, so that it is in doubt afterwards
abbrev pub InDoubt : Event → List Event → Type 0
InDoubt event after = after ≡ event ∷ []

-- A submission of an id is refused: what the log says then, and what is in doubt afterwards. Its write failed, or the disk
-- did where the content was to be compared.
abbrev pub SubmitRefused : Basis → List ℕ → Refusal → List Event → List Event → Type 0
SubmitRefused basis id (F.OtherContent other) after log = IsTrue (is_held log id) × (after ≡ [])
SubmitRefused basis id (F.Withdrawn other) after log = IsTrue (was_withdrawn log id) × (after ≡ [])
SubmitRefused basis id F.TooManyCrashes after log = IsTrue (is_new log id) × IsTrue (is_full basis log) × (after ≡ [])
SubmitRefused basis id F.JournalFull after log = IsTrue (is_new log id) × IsTrue (not (is_full basis log)) × (after ≡ [])
SubmitRefused basis id F.StoreFault after log =
    (IsTrue (is_new log id) × IsTrue (not (is_full basis log)) × InDoubt (E.Accepted id) after) ⊎ (IsTrue (is_held log id) × (after ≡ []))
SubmitRefused basis id _ after log = ⊥

-- what a submission of an id adds
abbrev pub Submits : Basis → List ℕ → Reply → List Event → List Event → List Event → Type 0
Submits basis id (R.Stored other due) after log own = IsTrue (is_new log id) × IsTrue (not (is_full basis log)) × (own ≡ E.Accepted id ∷ []) × (after ≡ [])
Submits basis id (R.Repeated other) after log own = IsTrue (is_held log id) × (own ≡ []) × (after ≡ [])
Submits basis id (R.Refused refusal) after log own = SubmitRefused basis id refusal after log × (own ≡ [])
Submits basis id _ after log own = ⊥

-- an ask that is passed over where the crash is due or has a report, refused: a full journal or a failed write shows only
-- where it isn't
abbrev pub PriorityRefused : Caller → List ℕ → Refusal → List Event → List Event → Type 0
PriorityRefused caller id F.NoCrash after log = IsGone caller id log × (after ≡ [])
PriorityRefused caller id F.JournalFull after log = IsTrue (is_held log id) × IsTrue (not (is_due_or_reported log id)) × (after ≡ [])
PriorityRefused caller id F.StoreFault after log = IsTrue (is_held log id) × IsTrue (not (is_due_or_reported log id)) × InDoubt (E.Asked id) after
PriorityRefused caller id _ after log = ⊥

-- what such an ask adds
abbrev pub Prioritises : Caller → List ℕ → Reply → List Event → List Event → List Event → Type 0
Prioritises caller id (R.Asked true due) after log own =
    IsTrue (is_held log id) × IsTrue (not (is_due_or_reported log id)) × (own ≡ E.Asked id ∷ []) × (after ≡ [])
Prioritises caller id (R.Asked false due) after log own = IsTrue (is_held log id) × IsTrue (is_due_or_reported log id) × (own ≡ []) × (after ≡ [])
Prioritises caller id (R.Refused refusal) after log own = PriorityRefused caller id refusal after log × (own ≡ [])
Prioritises caller id _ after log own = ⊥

-- this change of a held crash, refused: a full journal or a failed write shows only where the crash is held
abbrev pub ChangeRefused : Event → Caller → List ℕ → Refusal → List Event → List Event → Type 0
ChangeRefused event caller id F.NoCrash after log = IsGone caller id log × (after ≡ [])
ChangeRefused event caller id F.JournalFull after log = IsTrue (is_held log id) × (after ≡ [])
ChangeRefused event caller id F.StoreFault after log = IsTrue (is_held log id) × InDoubt event after
ChangeRefused event caller id _ after log = ⊥

abbrev pub Reprocesses : Caller → List ℕ → Reply → List Event → List Event → List Event → Type 0
Reprocesses caller id (R.Asked asked due) after log own = IsTrue (is_held log id) × (own ≡ E.Asked id ∷ []) × (after ≡ [])
Reprocesses caller id (R.Refused refusal) after log own = ChangeRefused (E.Asked id) caller id refusal after log × (own ≡ [])
Reprocesses caller id _ after log own = ⊥

abbrev pub Withdraws : Caller → List ℕ → Reply → List Event → List Event → List Event → Type 0
Withdraws caller id R.Withdrawn after log own = IsTrue (is_held log id) × (own ≡ E.Withdrawn id ∷ []) × (after ≡ [])
Withdraws caller id (R.Refused refusal) after log own = ChangeRefused (E.Withdrawn id) caller id refusal after log × (own ≡ [])
Withdraws caller id _ after log own = ⊥

-- ---- with the doubt

-- behind the changes in doubt, where they were kept, all of them, or without any
abbrev pub BehindDoubt : List Event → List Event → List Event → (List Event → List Event → Type 0) → Type 0
BehindDoubt log [] piece Adds = Adds log piece
BehindDoubt log (first ∷ more) piece Adds =
    Adds log piece ⊎ ((own : List Event) × (piece ≡ (first ∷ more) ++ own) × Adds (log ++ first ∷ more) own)

-- the doubt wasn't settled, and stays
abbrev pub StaysInDoubt : List Event → List Event → List Event → Type 0
StaysInDoubt doubt piece after = (piece ≡ []) × (after ≡ doubt)

-- Where an allocation failed, nothing was settled either. Where the disk failed, there may have been a doubt that it failed to
-- settle.
abbrev pub Writes : List Event → List Event → List Event → Reply → List Event → (List Event → List Event → Type 0) → Type 0
Writes log doubt piece (R.Refused F.NoMemory) after Adds = StaysInDoubt doubt piece after
Writes log doubt piece (R.Refused (F.NoPermission name)) after Adds = StaysInDoubt doubt piece after
Writes log doubt piece (R.Refused F.StoreFault) after Adds = ((doubt ≢ []) × StaysInDoubt doubt piece after) ⊎ BehindDoubt log doubt piece Adds
Writes log doubt piece reply after Adds = BehindDoubt log doubt piece Adds

-- ---- commands that process

-- the crash at this place of the due ones, from 0
abbrev pub IsDueAt : List Event → ℕ → List ℕ → Type 0
IsDueAt log place id = slice_get (due_ids log) place ≡ Some id

-- a turn that failed: some crash is due, and an altered one is the first of them
abbrev pub TurnFails : List Event → Refusal → Type 0
TurnFails log (F.Altered id) = IsDueAt log 0 id
TurnFails log (F.NoPermission name) = ⊤
TurnFails log _ = 0 < length (due_ids log)

abbrev pub Turns : List Event → Reply → List Event → Type 0
Turns log (R.Turned None) piece = (due_ids log ≡ []) × (piece ≡ [])
Turns log (R.Turned (Some id)) piece = IsDueAt log 0 id × (piece ≡ E.Done id ∷ [])
Turns log (R.Refused refusal) piece = TurnFails log refusal × (piece ≡ [])
Turns log _ piece = ⊥

-- the first due crashes were processed
abbrev pub processed : List Event → ℕ → List Event
processed log turns = map E.Done (take turns (due_ids log))

-- a drain that failed: some turns were made and not all, and an altered crash is that of the next turn
abbrev pub DrainFails : List Event → Refusal → List Event → Type 0
DrainFails log (F.NoPermission name) piece = piece ≡ []
DrainFails log (F.Altered id) piece = (turns : ℕ) × IsDueAt log turns id × (piece ≡ processed log turns)
DrainFails log _ piece = (turns : ℕ) × (turns < length (due_ids log)) × (piece ≡ processed log turns)

abbrev pub Drains : List Event → Reply → List Event → Type 0
Drains log (R.Drained count) piece = (count ≡ length (due_ids log)) × (piece ≡ map E.Done (due_ids log))
Drains log (R.Refused refusal) piece = DrainFails log refusal piece
Drains log _ piece = ⊥

abbrev pub Stops : List Event → Reply → List Event → Type 0
Stops log R.Stopping piece = ((has_stop log ≡ true) × (piece ≡ [])) ⊎ ((has_stop log ≡ false) × (piece ≡ E.Stopped ∷ []))
Stops log (R.Refused refusal) piece = piece ≡ []
Stops log _ piece = ⊥

abbrev pub Finishes : List Event → List ℕ → Reply → List Event → Type 0
Finishes log id (R.Finished true) piece = IsTrue (is_due log id) × (piece ≡ E.Done id ∷ [])
Finishes log id (R.Finished false) piece = IsTrue (not (is_due log id)) × (piece ≡ [])
Finishes log id (R.Refused refusal) piece = piece ≡ []
Finishes log id _ piece = ⊥

-- ---- commands that read

-- an allocation or the disk failed only where the log holds the crash, so it tells nothing of others
abbrev pub FailsOnHeld : List Event → List ℕ → Refusal → Type 0
FailsOnHeld log id F.StoreFault = IsTrue (is_held log id)
FailsOnHeld log id (F.Altered other) = IsTrue (is_held log id)
FailsOnHeld log id F.NoMemory = IsTrue (is_held log id)
FailsOnHeld log id F.NotProcessed = IsTrue (is_held log id && not (has_report log id))
FailsOnHeld log id _ = ⊤

-- a dump isn't found either where the crash has none of its name
abbrev pub ReadsDump : List Event → List ℕ → Reply → Type 0
ReadsDump log id (R.Refused refusal) = FailsOnHeld log id refusal
ReadsDump log id _ = IsTrue (is_held log id)

abbrev pub ReadsHeld : Caller → List Event → List ℕ → Reply → Type 0
ReadsHeld caller log id (R.Refused F.NoCrash) = IsGone caller id log
ReadsHeld caller log id (R.Refused refusal) = FailsOnHeld log id refusal
ReadsHeld caller log id (R.Row row) = IsTrue (is_held log id && has_report log id)
ReadsHeld caller log id _ = IsTrue (is_held log id)

abbrev pub FetchFails : List Event → List ℕ → Refusal → Type 0
FetchFails log id F.NoCrash = IsTrue (not (is_held log id))
FetchFails log id _ = IsTrue (is_due log id)

abbrev pub Fetches : List Event → List ℕ → Reply → Type 0
Fetches log id (R.Fetched None) = IsTrue (is_held log id && not (is_due log id))
Fetches log id (R.Fetched (Some raw)) = IsTrue (is_due log id)
Fetches log id (R.Refused refusal) = FetchFails log id refusal
Fetches log id _ = ⊥

-- the counts are those of the log; of the journal's size its events tell nothing
abbrev pub IsCounted : List Event → List Event → Reply → Type 0
IsCounted log doubt (R.Counted counts) = counts ≡ counts_with log doubt counts.journal_size
IsCounted log doubt (R.Refused refusal) = ⊤
IsCounted log doubt _ = ⊥

-- ---- every command

-- The events that a command adds under its reply to a log with events in doubt, what is in doubt afterwards, and what the
-- reply says of the log.
abbrev pub Grows : Basis → List Event → List Event → Command → Reply → List Event → List Event → Type 0
Grows basis log doubt (C.Submit raw) reply piece after = Writes log doubt piece reply after (Submits basis raw.id reply after)
Grows basis log doubt (C.Priority caller id) reply piece after = Writes log doubt piece reply after (Prioritises caller id reply after)
Grows basis log doubt (C.Reprocess caller id) reply piece after = Writes log doubt piece reply after (Reprocesses caller id reply after)
Grows basis log doubt (C.Withdraw caller id) reply piece after = Writes log doubt piece reply after (Withdraws caller id reply after)
Grows basis log doubt (C.Turn caller) reply piece after = Turns log reply piece × (after ≡ doubt)
Grows basis log doubt (C.Drain caller) reply piece after = Drains log reply piece × (after ≡ doubt)
Grows basis log doubt (C.Stop caller) reply piece after = Stops log reply piece × (after ≡ doubt)
Grows basis log doubt (C.Finish processed) reply piece after = Finishes log processed.crash.id reply piece × (after ≡ doubt)
Grows basis log doubt (C.Raw caller id) reply piece after = ReadsHeld caller log id reply × StaysInDoubt doubt piece after
Grows basis log doubt (C.Processed caller id) reply piece after = ReadsHeld caller log id reply × StaysInDoubt doubt piece after
Grows basis log doubt (C.Dump caller id name) reply piece after = ReadsDump log id reply × StaysInDoubt doubt piece after
Grows basis log doubt (C.Stack caller id) reply piece after = ReadsHeld caller log id reply × StaysInDoubt doubt piece after
Grows basis log doubt (C.Fetch id) reply piece after = Fetches log id reply × StaysInDoubt doubt piece after
Grows basis log doubt (C.Search query) reply piece after = StaysInDoubt doubt piece after
Grows basis log doubt (C.Tops query) reply piece after = StaysInDoubt doubt piece after
Grows basis log doubt (C.Counts caller) reply piece after = IsCounted log doubt reply × StaysInDoubt doubt piece after
