-- What holds of all lives that follow one another on one disk. A law that names a life and the later ones holds of every life
-- of a list: those behind it follow one another on the bytes that it left.
use Rattle.std.specs.Prelude.{◌≡◌, ◌⊎◌, ℕ, ◌≤◌, Bool, false, IsTrue, List, [], ◌∷◌, ◌++◌, length, map, filter, Option, None, Some, IfSome, bytes_eq, ⊤}
use Rattle.std.specs.List.{AllByRecursion, list_any}
use Rattle.std.specs.Option.{option_map, option_map_or}
use Rattle.soc_raw.specs.RawCrash.{crash_of}
use Rattle.soc_raw.specs.Record.{Crash, content_text}
use Rattle.soc_raw.specs.declared.raw_crash.RawCrash.{RawCrash}
use Rattle.soc_schema.specs.declared.caller.Caller.{Caller}
use Rattle.soc_schema.specs.declared.value.Cell.{Cell}
use Rattle.soc_ledger.specs.Due.{is_due}
use Rattle.soc_ledger.specs.Events.{was_withdrawn}
use Rattle.soc_desk.specs.declared.desk.Command.TheVariants as C
use Rattle.soc_desk.specs.declared.desk.Reply.TheVariants as R
use Rattle.soc_desk.specs.declared.desk.Refusal.TheVariants as F
use Rattle.soc_desk.specs.Basis.{Basis}
use Rattle.soc_desk.specs.Decisions.{accepting}
use Rattle.soc_desk.specs.Keeps.{kept_with_doubt}
use Rattle.soc_desk.specs.Laws.{IsAbsent, IsDrained, acknowledged}
use Rattle.soc_desk.specs.Log.{Kept, KeptReport, accept, ask, withdraw, report, Change, keep, accepted_of, events, raw_of, row_in}
use Rattle.soc_desk.specs.Opens.{log_of}
use Rattle.soc_desk.specs.State.{State, Settles, kept_of}
use Rattle.soc_lives.specs.Lives.{Action, asking, storing, failing, keeping, Transition, Life, AllLive, opened, ended}

-- in each state that a life is in
abbrev pub InEachState : (State → Type 0) → Life → Type 0
InEachState P life = P (opened life) × AllByRecursion (λ transition. P transition.after) life.transitions

-- at each transition of a life
abbrev pub AtEach : (Transition → Type 0) → Life → Type 0
AtEach P life = AllByRecursion P life.transitions

-- ---- what is kept

abbrev pub BeginsWith : List Kept → List Kept → Type 0
BeginsWith front kept = (more : List Kept) × (kept ≡ front ++ more)

-- these are the changes that the state keeps, or those and all that is in doubt
abbrev pub IsKeptBy : State → List Kept → Type 0
IsKeptBy state kept = (kept ≡ kept_of state.log) ⊎ (kept ≡ kept_with_doubt state)

-- the first of these, with all that were there before
pub record IsKeptBetween (before after kept : List Kept) : Type 0 where
  pub more : List Kept
  pub rest : List Kept
  pub whole : after ≡ before ++ (more ++ rest)
  pub kept_is : kept ≡ before ++ more

abbrev pub IsKeptInside : State → Action → State → List Kept → Type 0
IsKeptInside before (keeping reply) after kept =
    IsKeptBy before kept ⊎ IsKeptBetween (kept_of before.log) (kept_with_doubt after) kept
IsKeptInside before _ after kept = IsKeptBy before kept ⊎ IsKeptBy after kept

abbrev pub IsLeft : State → Option Transition → List Kept → Type 0
IsLeft last None kept = IsKeptBy last kept
IsLeft last (Some cut) kept = IsKeptInside last cut.action cut.after kept

-- The next life opens with what the end of the one before allows. And each later life begins with all that was ever kept
-- in an earlier one: with all, then, but for a doubt that the next opening didn't find.
pub record KeepsChanges : Type 0 where
  pub next : (found : List ℕ) (life next : Life) (later : List Life) → AllLive found (life ∷ next ∷ later)
      → IsLeft (ended life) life.cut next.opening
  pub later : (found : List ℕ) (life : Life) (later : List Life) → AllLive found (life ∷ later)
      → InEachState (λ state. AllByRecursion (λ next. BeginsWith (kept_of state.log) next.opening) later) life

-- ---- what is acknowledged

-- the changes whose writing the answers of an action acknowledge
abbrev pub acknowledged_by : Action → List Kept
acknowledged_by (asking command reply) = option_map_or (λ change. change ∷ []) (acknowledged command reply) []
acknowledged_by (storing raws) = map (λ raw. accepting (crash_of raw)) raws
acknowledged_by (failing raws) = []
acknowledged_by (keeping reply) = []

-- how many changes accept a crash of this id
abbrev pub accept_count : List Change → List ℕ → ℕ
accept_count log id = length (filter (λ crash. bytes_eq crash.id id) (accepted_of log))

-- behind these stand those changes, and the crashes that they accept are accepted nowhere else
pub record StandAt (front changes opening : List Kept) : Type 0 where
  pub more : List Kept
  pub whole : opening ≡ front ++ (changes ++ more)
  pub once : AllByRecursion (λ crash. accept_count (log_of opening) crash.id ≡ 1) (accepted_of (log_of changes))

-- acknowledged changes stand where they were written, in every later life
pub record HasPlace (later : List Life) (transition : Transition) : Type 0 where
  pub front : List Kept
  pub here : kept_of transition.after.log ≡ front ++ acknowledged_by transition.action
  pub there : AllByRecursion (λ next. StandAt front (acknowledged_by transition.action) next.opening) later

abbrev pub AcknowledgedStays : Type 0
AcknowledgedStays = (found : List ℕ) (life : Life) (later : List Life) → AllLive found (life ∷ later)
    → AtEach (HasPlace later) life

-- ---- repeats

-- an action whose write failed
abbrev pub FailsToWrite : Action → Type 0
FailsToWrite (asking command (R.Refused F.StoreFault)) = ⊤
FailsToWrite (failing raws) = ⊤
FailsToWrite (keeping (R.Refused F.StoreFault)) = ⊤
FailsToWrite _ = ⊥

-- The doubt is settled, and then it is gone: something is in doubt afterwards only where this action's own write failed.
pub record SettlesDoubt (before : State) (action : Action) (after : State) : Type 0 where
  pub log : List Change
  pub settles : Settles before.log before.doubt log
  pub own : List Change
  pub after_log : after.log ≡ log ++ own
  pub gone : (after.doubt ≡ []) ⊎ FailsToWrite action

-- the doubt isn't settled, and stays, and nothing is kept behind it
pub record LeavesDoubt (before after : State) : Type 0 where
  pub same : after.doubt ≡ before.doubt
  pub nothing_kept : kept_of after.log ≡ kept_of before.log

-- each transition leaves the doubt, or settles it
abbrev pub SettleOnce : State → List Transition → Type 0
SettleOnce before [] = ⊤
SettleOnce before (transition ∷ transitions) =
    (LeavesDoubt before transition.after ⊎ SettlesDoubt before transition.action transition.after)
    × SettleOnce transition.after transitions

-- a submission that is answered as repeated has the content of the crash that each later life opens with
abbrev pub IsRepeated : List Life → Transition → Type 0
IsRepeated later transition = (raw : RawCrash) (id : List ℕ) → transition.action ≡ asking (C.Submit raw) (R.Repeated id)
    → (held : Crash) × (content_text held ≡ content_text (crash_of raw)) × AllByRecursion (λ next. raw_of (log_of next.opening) raw.id ≡ Some held) later

-- whatever is asked, lost and repeated: no id is accepted twice, in doubt or not, and each doubt is settled once at most
pub record RepeatsActOnce : Type 0 where
  pub accepts : (found : List ℕ) (lives : List Life) → AllLive found lives
      → AllByRecursion (InEachState (λ state. (id : List ℕ) → accept_count (state.log ++ map keep state.doubt) id ≤ 1)) lives
  pub settles : (found : List ℕ) (lives : List Life) → AllLive found lives
      → AllByRecursion (λ life. SettleOnce (opened life) life.transitions) lives
  pub repeated : (found : List ℕ) (life : Life) (later : List Life) → AllLive found (life ∷ later) → AtEach (IsRepeated later) life

-- ---- rows

-- `rows` has the row that the lists and symbols of a digest give of a crash, so that equal digests give equal rows
abbrev pub GoByDigests : (List ℕ → Crash → List Cell) → List Life → Type 0
GoByDigests rows lives = AllByRecursion (λ life. IfSome life.basis.digest (λ digest. life.basis.row_of ≡ rows digest)) lives

abbrev pub IsNoReport : Kept → Type 0
IsNoReport (report made) = ⊥
IsNoReport _ = ⊤

-- the first life finds no kept report, so that all are those of these lives
abbrev pub BeginsUnreported : List Life → Type 0
BeginsUnreported [] = ⊤
BeginsUnreported (life ∷ lives) = AllByRecursion IsNoReport life.opening

-- each row is what the life's lists and symbols give of the crash as it was accepted
abbrev pub HasTrueRows : Basis → State → Type 0
HasTrueRows basis state =
    (id : List ℕ) → IfSome (row_in basis state.log id) (λ row. option_map basis.row_of (raw_of state.log id) ≡ Some row)

-- a drain that answered a number leaves nothing due, and of each crash that was due the row that the life's lists and
-- symbols give of it
abbrev pub AreDrained : Basis → State → List Transition → Type 0
AreDrained basis before [] = ⊤
AreDrained basis before (transition ∷ transitions) =
    ((caller : Caller) (count : ℕ) → transition.action ≡ asking (C.Drain caller) (R.Drained count)
    → IsDrained basis before.log transition.after.log)
    × AreDrained basis transition.after transitions

pub record RowsAreOfCrashes : Type 0 where
  pub rows : (rows : List ℕ → Crash → List Cell) (found : List ℕ) (lives : List Life)
      → AllLive found lives → GoByDigests rows lives → BeginsUnreported lives
      → AllByRecursion (λ life. InEachState (HasTrueRows life.basis) life) lives
  pub drained : (found : List ℕ) (lives : List Life) → AllLive found lives
      → AllByRecursion (λ life. AreDrained life.basis (opened life) life.transitions) lives
  -- the crash of an id is the same in every later life
  pub crashes : (found : List ℕ) (life : Life) (later : List Life) → AllLive found (life ∷ later)
      → InEachState (λ state. (id : List ℕ)
      → IfSome (raw_of state.log id) (λ raw. AllByRecursion (λ next. raw_of (log_of next.opening) id ≡ Some raw) later)) life

-- ---- kept reports

-- the change asks for the crash of this id or withdraws it
abbrev pub is_of : List ℕ → Kept → Bool
is_of id (accept crash) = false
is_of id (ask other) = bytes_eq other id
is_of id (withdraw other) = bytes_eq other id
is_of id (report made) = false

-- the crash has the report's row, and isn't due
abbrev pub HasReport : Basis → List Kept → KeptReport → Type 0
HasReport basis opening made =
    (row_in basis (log_of opening) made.id ≡ Some made.row) × (is_due (events basis (log_of opening)) made.id ≡ false)

-- behind these stands no ask and no withdrawal of a report's crash, or else its crash has the report
pub record OpensWithReports (kept : List Kept) (reports : List KeptReport) (next : Life) : Type 0 where
  pub more : List Kept
  pub behind : next.opening ≡ kept ++ more
  pub has : AllByRecursion (λ made. list_any (is_of made.id) more ≡ false → HasReport next.basis next.opening made) reports

-- the reports that were appended, as many as were answered, and each later life with the same digest has them
pub record StayReports (basis : Basis) (later : List Life) (count : ℕ) (after : State) : Type 0 where
  pub log : List Change
  pub reports : List KeptReport
  pub after_log : after.log ≡ log ++ log_of (map report reports)
  pub count_is : count ≡ length reports
  pub there : AllByRecursion (λ next. next.basis.digest ≡ basis.digest → OpensWithReports (kept_of after.log) reports next) later

abbrev pub KeptReportsStay : Type 0
KeptReportsStay = (found : List ℕ) (life : Life) (later : List Life) → AllLive found (life ∷ later)
    → AtEach (λ transition. (count : ℕ) → transition.action ≡ keeping (R.Kept count)
    → StayReports life.basis later count transition.after) life

-- ---- withdrawals

-- a crash that was withdrawn is shown to nobody in any state of a later life
abbrev pub WithdrawnStaysHidden : Type 0
WithdrawnStaysHidden = (found : List ℕ) (life : Life) (later : List Life) → AllLive found (life ∷ later)
    → InEachState (λ state. (id : List ℕ) → IsTrue (was_withdrawn (events life.basis state.log) id)
    → AllByRecursion (λ next. InEachState (λ after. (caller : Caller) → IsAbsent next.basis after.log caller id) next) later) life
