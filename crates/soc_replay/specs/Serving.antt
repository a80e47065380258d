-- A session over a desk whose log a journal keeps: from the opening of the journal until the reports are kept. This project's
-- profile.
use Rattle.std.specs.Prelude.{◌≡◌, ◌⊎◌, ℕ, ◌≤◌, Bool, true, false, is_some, IfSome, List, ◌++◌, Option, None, Some}
use Rattle.soc_raw.specs.Record.{Crash}
use Rattle.soc_schema.specs.declared.permission.Permissions.{Permissions}
use Rattle.soc_schema.specs.declared.value.Cell.{Cell}
use Rattle.soc_edge.specs.Disk.{DiskTold, GoesOn}
use Rattle.soc_edge.specs.Faults.{Rose}
use Rattle.soc_vault.specs.Openings.{FirstLeaves}
use Rattle.soc_desk.specs.declared.desk.Reply.{Reply}
use Rattle.soc_desk.specs.declared.desk.Reply.TheVariants as reply
use Rattle.soc_desk.specs.declared.desk.Refusal.TheVariants as refusal
use Rattle.soc_desk.specs.Asks.{IsStoreFault}
use Rattle.soc_desk.specs.Basis.{Basis}
use Rattle.soc_desk.specs.Keeps.{KeepAllows, KeepsWith}
use Rattle.soc_desk.specs.State.{State, Allowed, settled}
use Rattle.soc_session.specs.declared.ending.SessionEnd.{SessionEnd}
use Rattle.soc_session.specs.declared.ending.SessionEnd.TheVariants.{Ended, Closed, Stopped, Refused, ReadFault, WriteFault, TooLong, NoMemory}
use Rattle.soc_desk.specs.Runs.{Answers, DeskAt}
use Rattle.soc_replay.specs.Blames.{RoseBy, store_faults}
use Rattle.soc_session.specs.Desk.{ways}
use Rattle.soc_session.specs.Session.{Serves, around}
use Rattle.soc_replay.specs.declared.ending.Keeping.{Keeping}
use Rattle.soc_replay.specs.declared.ending.Keeping.TheVariants as K
use Rattle.soc_replay.specs.declared.setup.Setup.{Setup}
use Rattle.soc_replay.specs.Opening.{OpensJournal}
use Rattle.soc_edge.specs.World.{Surroundings}

-- ---- reports that are kept after the session

-- the ends after which reports are kept
abbrev pub keeps_reports : SessionEnd → Bool
keeps_reports Ended = true
keeps_reports Closed = true
keeps_reports Stopped = true
keeps_reports Refused = true
keeps_reports TooLong = true
keeps_reports ReadFault = false
keeps_reports WriteFault = false
keeps_reports NoMemory = false

-- what the desk answered when it was told to keep them
abbrev pub keep_reply : Keeping → Option Reply
keep_reply K.Nothing = None
keep_reply (K.Done count) = Some (reply.Kept count)
keep_reply K.Fault = Some (reply.Refused refusal.StoreFault)
keep_reply K.NoMemory = Some (reply.Refused refusal.NoMemory)

-- what keeping under this reply does, without a reply nothing; a store fault only where the disk's count of faults rose
abbrev pub KeepsBy : Basis → State → ℕ → ℕ → Option Reply → State → Type 0
KeepsBy basis last faults faults' None kept = kept ≡ last
KeepsBy basis last faults faults' (Some said) kept =
    KeepsWith basis last said kept × (IsStoreFault said → Rose faults faults')

-- ---- stops

-- what a stop since the session's end leaves: where reports were to be kept what the keeping allows, and else what is kept
abbrev pub KeepLeaves : State → Option Reply → State → List ℕ → Type 0
KeepLeaves last None kept image = Allowed kept image
KeepLeaves last (Some said) kept image = KeepAllows last kept image

-- From the moment on at which the journal stood, its first sync done or the empty journal made, a stop leaves what each answer
-- says, and since the session's end what is left then; until then what might have been left before, or the torn creation.
pub record SurvivesStops (before after : DiskTold) (bytes : List ℕ) (opened served : DeskAt) (LeftThen : List ℕ → Type 0)
    (kept : State) : Type 0 where
  pub begins : before.moment ≤ opened.moment
  pub ends : served.moment ≤ after.moment
  pub until : (image : List ℕ) → after.since before.moment image
      → after.since opened.moment image ⊎ FirstLeaves before.images bytes image
  pub keeping : (image : List ℕ) → after.since served.moment image → LeftThen image
  pub now : (image : List ℕ) → after.images image → Allowed kept image

-- ---- the whole

-- what a desk is served by: the rows of its reports, their digest, the stacks of its crashes, and the setup
pub record Service : Type 0 where
  pub row_of : Crash → List Cell
  pub digest : Option (List ℕ)
  pub stack_of : Permissions → Crash → Option (List ℕ)
  pub setup : Setup

abbrev pub service : (Crash → List Cell) → Option (List ℕ) → (Permissions → Crash → Option (List ℕ)) → Setup → Service
service row_of digest stack_of setup = record { row_of = row_of; digest = digest; stack_of = stack_of; setup = setup }

-- The journal is opened, the session's responses answer the input's messages by the setup and by one run of a desk from the
-- log, and after such an end the reports are kept.
pub record ServesJournal (by : Service) (before after : Surroundings) (end : SessionEnd) (keeping : Keeping) : Type 0 where
  pub opening : OpensJournal by.row_of by.digest by.setup.limits before.disk.content
  -- the desk when the journal stood, and when the session had ended
  pub opened : DeskAt
  pub opened_as : opened.state ≡ settled opening.log
  pub served : DeskAt
  -- the session
  pub window : List ℕ
  pub serves : Serves (Answers opening.basis after.disk.since) (ways by.setup.rules by.stack_of)
      (around before.streams opened before.outlook) (around after.streams served after.outlook) window end
  -- the keeping, after such an end and after no other
  pub where_ended : is_some (keep_reply keeping) ≡ keeps_reports end
  pub kept : State
  pub keeps : KeepsBy opening.basis served.state served.faults after.disk.faults (keep_reply keeping) kept
  -- the disk's time and its faults
  pub no_fewer : before.disk.faults ≤ opened.faults
  pub at_most : served.faults ≤ after.disk.faults
  pub blames : RoseBy (store_faults serves.responses) opened.faults served.faults
  pub goes_on : GoesOn before.disk after.disk
  -- every stop
  pub survives : IfSome before.disk.content (λ bytes. SurvivesStops before.disk after.disk bytes opened served
      (KeepLeaves served.state (keep_reply keeping) kept) kept)
