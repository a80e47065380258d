-- What a processor does with the crashes that it takes: of each, one fetch in a turn of its seat, and where that gave a raw crash, one finish of it.
use Rattle.std.specs.Prelude.{◌≡◌, ◌⊎◌, ℕ, Bool, true, false, List, [], ◌∷◌, ◌++◌, Option, None, Some, if◌then◌else◌, ⊤}
use Rattle.soc_raw.specs.Record.{Crash}
use Rattle.soc_raw.specs.declared.raw_crash.RawCrash.{RawCrash}
use Rattle.soc_raw.specs.RawCrash.{crash_of}
use Rattle.soc_schema.specs.Reports.{Report}
use Rattle.soc_hall.specs.Asked.{sees}
use Rattle.soc_hall.specs.Seats.{seen_of}
use Rattle.soc_pool.specs.declared.jobs.Job.{Job}
use Rattle.soc_pool.specs.declared.jobs.Job.TheVariants as J
use Rattle.soc_pool.specs.declared.rule.Seen.{Seen}
use Rattle.soc_ledger.specs.declared.event.Event.TheVariants as E
use Rattle.soc_ledger.specs.Due.{is_due}
use Rattle.soc_desk.specs.declared.desk.Command.{Command}
use Rattle.soc_desk.specs.declared.desk.Command.TheVariants as C
use Rattle.soc_desk.specs.declared.desk.Receipt.{Receipt}
use Rattle.soc_desk.specs.declared.desk.Refusal.TheVariants as F
use Rattle.soc_desk.specs.declared.desk.Reply.{Reply}
use Rattle.soc_desk.specs.declared.desk.Reply.TheVariants as R
use Rattle.soc_service.specs.Changes.{events_in}
use Rattle.soc_service.specs.declared.process.Outcome.{Outcome}
use Rattle.soc_service.specs.declared.process.Outcome.TheVariants as O
use Rattle.soc_service.specs.declared.processor.WorkerStop.{WorkerStop}
use Rattle.soc_service.specs.declared.processor.WorkerStop.TheVariants as S
use Rattle.soc_service.specs.Turns.{Knows, Shared, Turn}

-- ---- one crash

-- the reply of a fetch that gave no raw crash, since the crash isn't held or isn't due
abbrev pub GaveNone : Reply → Type 0
GaveNone (R.Fetched None) = ⊤
GaveNone (R.Refused F.NoCrash) = ⊤
GaveNone _ = ⊥

-- the reply of a fetch that couldn't read the crash
abbrev pub CouldNotRead : Reply → Type 0
CouldNotRead (R.Refused F.StoreFault) = ⊤
CouldNotRead (R.Refused (F.Altered id)) = ⊤
CouldNotRead _ = ⊥

module _ {T A B : Type 0} (desk : Shared T A B) (command_of : A → Command) where
  -- one turn fetched the crash of the id, and had this reply
  pub record Fetches (v : Knows A B) (id : List ℕ) (reply : Reply) (w : Knows A B) : Type 0 where
    pub receipt : Receipt
    pub replied : receipt.reply ≡ reply
    pub turn : Turn desk command_of v (C.Fetch id) receipt w

  -- one turn gave the crash a row, and had this reply
  pub record Finishes (v : Knows A B) (crash : Crash) (reply : Reply) (w : Knows A B) : Type 0 where
    pub processed : Report
    pub same : processed.crash ≡ crash
    pub receipt : Receipt
    pub replied : receipt.reply ≡ reply
    pub turn : Turn desk command_of v (C.Finish processed) receipt w

  -- the turn changed nothing, and at its start the crash wasn't due
  abbrev pub WasIdle : List ℕ → {v : Knows A B} {command : Command} {receipt : Receipt} {w : Knows A B} → Turn desk command_of v command receipt w → Type 0
  WasIdle id {v} turn = (turn.asked.piece ≡ []) × (is_due (events_in (seen_of (sees turn.asked.between v))) id ≡ false)

  -- what became of a crash that was finished: it is made where the turn's piece is its `Done`
  abbrev pub EndsBy : (crash : Crash) (outcome : Outcome) {v : Knows A B} {reply : Reply} {w : Knows A B} → Finishes v crash reply w → Type 0
  EndsBy crash O.Made finish = events_in finish.turn.asked.piece ≡ E.Done crash.id ∷ []
  EndsBy crash O.Stale finish = WasIdle crash.id finish.turn
  EndsBy crash O.Missed finish = ⊥

  -- what became of a crash of which the fetch gave none
  abbrev pub EndsUnread : (id : List ℕ) (outcome : Outcome) {v : Knows A B} {reply : Reply} {w : Knows A B} → Fetches v id reply w → Type 0
  EndsUnread id O.Made fetch = ⊥
  EndsUnread id O.Stale {v} {reply} fetch = GaveNone reply × WasIdle id fetch.turn
  EndsUnread id O.Missed {v} {reply} fetch = CouldNotRead reply

  -- behind the fetch: one finish where it gave a raw crash, and else no turn
  abbrev pub GoesOn : (id : List ℕ) (outcome : Outcome) {v : Knows A B} (reply : Reply) (u : Knows A B) → Fetches v id reply u → Knows A B → Type 0
  GoesOn id outcome (R.Fetched (Some raw)) u fetch w = (reply : Reply) × (finish : Finishes u (crash_of raw) reply w) × EndsBy (crash_of raw) outcome finish
  GoesOn id outcome reply u fetch w = (w ≡ u) × EndsUnread id outcome fetch

  -- the turns for a crash that was taken, and what became of it
  pub record WorksOn (v : Knows A B) (id : List ℕ) (outcome : Outcome) (w : Knows A B) : Type 0 where
    pub between : Knows A B
    pub reply : Reply
    pub fetch : Fetches v id reply between
    pub goes_on : GoesOn id outcome reply between fetch w

  -- behind the fetch where memory was wanting: no turn, or one finish of the crash that it gave
  abbrev pub StopsBehind : Reply → Knows A B → Knows A B → Type 0
  StopsBehind reply u w = (w ≡ u) ⊎ ((raw : RawCrash) × (reply ≡ R.Fetched (Some raw)) × (answer : Reply) × Finishes u (crash_of raw) answer w)

  -- the turns for a crash where memory was wanting
  pub record LeavesOff (v : Knows A B) (id : List ℕ) (w : Knows A B) : Type 0 where
    pub between : Knows A B
    pub reply : Reply
    pub fetch : Fetches v id reply between
    pub stops : StopsBehind reply between w

-- ---- all crashes

-- a crash that was taken, and what became of it
pub record Work : Type 0 where
  pub id : List ℕ
  pub outcome : Outcome

abbrev pub is_made : Outcome → Bool
is_made O.Made = true
is_made _ = false

abbrev pub is_stale : Outcome → Bool
is_stale O.Stale = true
is_stale _ = false

abbrev pub is_missed : Outcome → Bool
is_missed O.Missed = true
is_missed _ = false

-- the crashes of these works, in order
abbrev pub ids_of : List Work → List (List ℕ)
ids_of [] = []
ids_of (work ∷ works) = work.id ∷ ids_of works

-- those of which this became
abbrev pub ids_with : (Outcome → Bool) → List Work → List (List ℕ)
ids_with test [] = []
ids_with test (work ∷ works) = if test work.outcome then work.id ∷ ids_with test works else ids_with test works

-- the crash that was left, where one was
abbrev pub left_of : Option (List ℕ) → List (List ℕ)
left_of None = []
left_of (Some id) = id ∷ []

abbrev pub crash_jobs : List (List ℕ) → List Job
crash_jobs [] = []
crash_jobs (id ∷ ids) = J.Crash id ∷ crash_jobs ids

-- a pass has put the jobs of these crashes more, and no others
pub record PutsCrashes (v w : Seen) : Type 0 where
  pub crashes : List (List ℕ)
  pub number : w.number ≡ v.number
  pub puts : w.puts ≡ v.puts ++ crash_jobs crashes

-- a processor that has ended took an `End` last
abbrev pub last_job : WorkerStop → List Job
last_job S.Ended = J.End ∷ []
last_job S.NoMemory = []

module _ {T A B : Type 0} (desk : Shared T A B) (command_of : A → Command) where
  -- the turns for these crashes, in order, and no others
  abbrev pub WorksOnAll : Knows A B → List Work → Knows A B → Type 0
  WorksOnAll v [] w = w ≡ v
  WorksOnAll v (work ∷ works) w = (u : Knows A B) × WorksOn desk command_of v work.id work.outcome u × WorksOnAll u works w

  -- where memory was wanting, the turns for the last crash
  abbrev pub LeavesLast : Knows A B → Option (List ℕ) → Knows A B → Type 0
  LeavesLast v None w = w ≡ v
  LeavesLast v (Some id) w = LeavesOff desk command_of v id w

  -- Each crash that was taken is in exactly one of the other lists, but for the last one where memory was wanting.
  pub record Worked (v : Knows A B) (taken made stale missed : List (List ℕ)) (stop : WorkerStop) (w : Knows A B) : Type 0 where
    pub works : List Work
    pub between : Knows A B
    pub each : WorksOnAll v works between
    pub left : Option (List ℕ)
    pub last : LeavesLast between left w
    pub taken_are : taken ≡ ids_of works ++ left_of left
    pub made_are : made ≡ ids_with is_made works
    pub stale_are : stale ≡ ids_with is_stale works
    pub missed_are : missed ≡ ids_with is_missed works
    pub ended : stop ≡ S.Ended → left ≡ None
