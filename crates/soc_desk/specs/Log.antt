-- The log of a desk: what was accepted, asked for, withdrawn, reported, processed and stopped, in order.
-- This project's profile. Which crashes are held and due depends on its events alone, without their contents.
use Rattle.std.specs.Prelude.{◌≡◌, ℕ, Bool, false, ◌&&◌, IsTrue, List, [], ◌∷◌, length, map, reverse, filter, filter_map, Option, None, Some, IfSome, IsSome, if◌then◌else◌, bytes_eq, ⊤}
use Rattle.std.specs.Option.{option_map, option_map_or, option_and_then}
use Rattle.std.specs.List.{find, AllByRecursion}
use Rattle.soc_raw.specs.CrashId.{IsId}
use Rattle.soc_raw.specs.Record.{Crash, IsCrash}
use Rattle.soc_schema.specs.declared.value.Cell.{Cell}
use Rattle.soc_schema.specs.declared.value.Value.TheVariants.{Text}
use Rattle.soc_schema.specs.Fields.{uuid_field}
use Rattle.soc_schema.specs.Reports.{TellsCrash}
use Rattle.soc_schema.specs.Rows.{value_of}
use Rattle.soc_schema.specs.RowText.{HasText, row_text}
use Rattle.soc_ledger.specs.declared.event.Event.{Event}
use Rattle.soc_ledger.specs.declared.event.Event.TheVariants as event
use Rattle.soc_ledger.specs.Due.{is_due}
use Rattle.soc_ledger.specs.Events.{is_held}
use Rattle.soc_ledger.specs.Legal.{IsLegal as AreLegal}
use Rattle.soc_desk.specs.Basis.{Basis}

-- an accepted crash: its id, and the raw crash where the disk tells its content
pub record Accepted : Type 0 where
  pub id : List ℕ
  pub raw : Option Crash

-- a report that is kept over restarts: of which crash, made by which lists and symbols, and its row
pub record KeptReport : Type 0 where
  pub id : List ℕ
  pub digest : List ℕ
  pub row : List Cell

-- a change that the journal keeps over restarts
pub data Kept : Type 0 where
  accept : Accepted → Kept
  ask : List ℕ → Kept
  withdraw : List ℕ → Kept
  report : KeptReport → Kept

-- one change of the log: `done` says that the crash of an id was processed
pub data Change : Type 0 where
  keep : Kept → Change
  done : List ℕ → Change
  stop : Change

-- the digest is the run's own
abbrev pub is_own : Basis → List ℕ → Bool
is_own basis digest = option_map_or (λ own. bytes_eq own digest) basis.digest false

-- a change without its content
abbrev pub event_of : Basis → Change → Event
event_of basis (keep (accept crash)) = event.Accepted crash.id
event_of basis (keep (ask id)) = event.Asked id
event_of basis (keep (withdraw id)) = event.Withdrawn id
event_of basis (keep (report made)) = event.Reported made.id (is_own basis made.digest)
event_of basis (done id) = event.Done id
event_of basis stop = event.Stopped

abbrev pub events : Basis → List Change → List Event
events basis log = map (event_of basis) log

-- ---- what is told of the crashes

abbrev pub accepted_in : Change → Option Accepted
accepted_in (keep (accept crash)) = Some crash
accepted_in (keep (ask _)) = None
accepted_in (keep (withdraw _)) = None
accepted_in (keep (report _)) = None
accepted_in (done _) = None
accepted_in stop = None

-- the accepted crashes in order, withdrawn or not
abbrev pub accepted_of : List Change → List Accepted
accepted_of log = filter_map accepted_in log

-- the raw crash of an id, where it was accepted and is told
abbrev pub raw_of : List Change → List ℕ → Option Crash
raw_of log id = option_and_then (λ crash. crash.raw) (find (λ crash. bytes_eq crash.id id) (accepted_of log))

-- the held crashes, in the order in which they were accepted
abbrev pub crashes_of : Basis → List Change → List Accepted
crashes_of basis log = filter (λ crash. is_held (events basis log) crash.id) (accepted_of log)

-- ---- the rows of reports

-- the row of a crash after a change behind these, of which the newest comes first: that of its last `done`, or of the
-- report that counts as one
abbrev pub row_after : Basis → List ℕ → Change → List Change → Option (List Cell) → Option (List Cell)
row_after basis id (done other) older earlier =
    if bytes_eq other id then option_map basis.row_of (raw_of (reverse older) id) else earlier
row_after basis id (keep (report made)) older earlier =
    if bytes_eq made.id id && (is_own basis made.digest && is_due (events basis (reverse older)) id) then Some made.row else earlier
row_after basis id (keep (accept _)) older earlier = earlier
row_after basis id (keep (ask _)) older earlier = earlier
row_after basis id (keep (withdraw _)) older earlier = earlier
row_after basis id stop older earlier = earlier

abbrev pub row_back : Basis → List ℕ → List Change → Option (List Cell)
row_back basis id [] = None
row_back basis id (change ∷ older) = row_after basis id change older (row_back basis id older)

-- the row of a crash, where it has a report and the row is told
abbrev pub row_in : Basis → List Change → List ℕ → Option (List Cell)
row_in basis log id = row_back basis id (reverse log)

-- ---- which logs are legal

-- What a change behind these says of its crash is so, and the row of a report is one that has a text.
abbrev pub IsSound : List Change → Change → Type 0
IsSound older (keep (accept crash)) = IsId crash.id × IfSome crash.raw (λ raw. (raw.id ≡ crash.id) × IsCrash raw)
IsSound older (keep (report made)) =
    (length made.digest ≡ 32) × (value_of made.row uuid_field ≡ Some (Text made.id))
    × IfSome (raw_of older made.id) (λ raw. TellsCrash raw made.row) × HasText made.row (row_text made.row)
IsSound older (keep (ask _)) = ⊤
IsSound older (keep (withdraw _)) = ⊤
IsSound older (done _) = ⊤
IsSound older stop = ⊤

-- the same of changes of which the newest comes first
abbrev pub AreSoundBack : List Change → Type 0
AreSoundBack [] = ⊤
AreSoundBack (change ∷ older) = IsSound (reverse older) change × AreSoundBack older

-- each event was legal at its place, each content is sound, and where the disk tells its content each crash is told
pub record IsLegal (basis : Basis) (log : List Change) : Type 0 where
  pub events_legal : AreLegal (events basis log)
  pub sound : AreSoundBack (reverse log)
  pub told : IsTrue basis.is_told → AllByRecursion (λ crash. IsSome crash.raw) (accepted_of log)
