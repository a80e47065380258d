-- The state of a desk: a log, and a doubt.
use Rattle.std.specs.Prelude.{◌≡◌, ◌⊎◌, ℕ, ◌+◌, Bool, nat_le, List, [], ◌∷◌, ◌++◌, length, map, filter_map, Option, None, Some}
use Rattle.std.specs.Option.{option_map_or}
use Rattle.soc_raw.specs.Record.{record_of}
use Rattle.soc_schema.specs.RowText.{row_text}
use Rattle.soc_edge.specs.Disk.{DiskTold, LeavesOnly}
use Rattle.soc_journal.specs.Entries.{Entry, accept_kind, ask_kind, withdraw_kind, report_kind, beside_body, place_behind}
use Rattle.soc_journal.specs.Text.{JournalText}
use Rattle.soc_ledger.specs.declared.event.Event.{Event}
use Rattle.soc_desk.specs.Basis.{Basis}
use Rattle.soc_desk.specs.Log.{Kept, accept, ask, withdraw, report, Change, keep, done, stop, event_of, IsLegal}

-- a log, and the kept changes whose one write failed: all of them stand in the journal, or none
pub record State : Type 0 where
  pub log : List Change
  pub doubt : List Kept

abbrev pub settled : List Change → State
settled log = record { log = log; doubt = [] }

-- the changes in doubt without their contents
abbrev pub doubted : Basis → State → List Event
doubted basis state = map (λ change. event_of basis (keep change)) state.doubt

-- the log is legal, and so it is with the doubt
pub record IsLegalState (basis : Basis) (state : State) : Type 0 where
  pub log : IsLegal basis state.log
  pub doubt : IsLegal basis (state.log ++ map keep state.doubt)

-- the log once a doubt is settled: all changes in doubt are there, or all are forgotten
abbrev pub Settles : List Change → List Kept → List Change → Type 0
Settles log [] after = after ≡ log
Settles log (first ∷ more) after = (after ≡ log ++ map keep (first ∷ more)) ⊎ (after ≡ log)

-- ---- the journal

-- the body of a change's entry: a record, an id, or an id, a digest and a row's text; of a raw crash that isn't told, nothing
abbrev pub body_of : Kept → List ℕ
body_of (accept crash) = option_map_or record_of crash.raw []
body_of (ask id) = id
body_of (withdraw id) = id
body_of (report made) = made.id ++ (made.digest ++ row_text made.row)

abbrev pub kind_of : Kept → ℕ
kind_of (accept _) = accept_kind
kind_of (ask _) = ask_kind
kind_of (withdraw _) = withdraw_kind
kind_of (report _) = report_kind

-- the entry that a journal has for a change
abbrev pub entry_of : Kept → Entry
entry_of change = record { kind = kind_of change; body = body_of change }

abbrev pub entries_of : List Kept → List Entry
entries_of changes = map entry_of changes

abbrev pub kept_in : Change → Option Kept
kept_in (keep change) = Some change
kept_in (done _) = None
kept_in stop = None

-- the changes that a journal keeps over restarts
abbrev pub kept_of : List Change → List Kept
kept_of log = filter_map kept_in log

-- the journal of these changes has room for one more
abbrev pub has_room : Basis → List Change → Kept → Bool
has_room basis log change =
    nat_le (place_behind (entries_of (kept_of log)) + beside_body + length (body_of change)) basis.journal_bytes

-- ---- stops

-- the image is a journal of these changes
abbrev pub StandsFor : List ℕ → List Kept → Type 0
StandsFor image changes = JournalText (entries_of changes) image

-- what an image may stand for: the kept changes, or those and the whole doubt
abbrev pub Allowed : State → List ℕ → Type 0
Allowed state image = StandsFor image (kept_of state.log) ⊎ StandsFor image (kept_of state.log ++ state.doubt)

-- each image that a stop may leave from the moment before until the one after is allowed in one of these states
abbrev pub Survives : DiskTold → DiskTold → State → State → Type 0
Survives disk disk' before after = LeavesOnly disk disk' (λ image. Allowed before image ⊎ Allowed after image)
