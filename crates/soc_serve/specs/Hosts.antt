-- The service over a listener, by collectors and processors beside each other. This project's profile.
use Rattle.std.specs.Prelude.{◌≡◌, ◌⊎◌, ℕ, ◌≤◌, IfSome, List, ◌++◌, Option, None, Some, Ok}
use Rattle.soc_edge.specs.Disk.{DiskFailed, GoesOn}
use Rattle.soc_edge.specs.Faults.{Rose}
use Rattle.soc_edge.specs.Told.{OnlyWrites, WriteFailed, Writes}
use Rattle.soc_edge.specs.Tree.{OnlyLooks, TreeFailed}
use Rattle.soc_edge.specs.World.{Outside, Surroundings}
use Rattle.soc_hall.specs.Asked.{Closes as ClosesHall}
use Rattle.soc_ledger.specs.Due.{due_ids}
use Rattle.soc_pool.specs.declared.pass.RingEnd.{RingEnd}
use Rattle.soc_pool.specs.Passes.{seen_in}
use Rattle.soc_desk.specs.declared.desk.Command.{Command}
use Rattle.soc_desk.specs.declared.desk.Receipt.{Receipt}
use Rattle.soc_desk.specs.Basis.{Basis}
use Rattle.soc_desk.specs.Keeps.{KeepAllows}
use Rattle.soc_desk.specs.Log.{Change, events}
use Rattle.soc_desk.specs.Runs.{Answers, DeskAt}
use Rattle.soc_desk.specs.State.{State, IsLegalState, settled}
use Rattle.soc_service.specs.declared.change.Change.{Change as Turned}
use Rattle.soc_service.specs.Answers.{Answers as AnswersTurn}
use Rattle.soc_service.specs.Changes.{kept_in}
use Rattle.soc_service.specs.Turns.{Knows}
use Rattle.soc_crew.specs.declared.crew.Crew.{Crew}
use Rattle.soc_crew.specs.Jobs.{Shares, Starts}
use Rattle.soc_turns.specs.Logs.{changes_of}
use Rattle.soc_turns.specs.Runs.{RunsTurns}
use Rattle.soc_words.specs.declared.words.Task.{Task}
use Rattle.soc_words.specs.declared.words.Task.TheVariants as T
use Rattle.soc_words.specs.declared.words.Words.{Words}
use Rattle.soc_replay.specs.declared.ending.RunEnd.{RunEnd}
use Rattle.soc_replay.specs.declared.ending.RunEnd.TheVariants as R
use Rattle.soc_replay.specs.Files.{Said, Says}
use Rattle.soc_replay.specs.Opening.{OpensJournal}
use Rattle.soc_replay.specs.Replay.{Replays, service_of}
use Rattle.soc_replay.specs.Serving.{Service, SurvivesStops}
use Rattle.soc_replay.specs.Tasks.{TellsHow, WantsMemory}
use Rattle.soc_serve.specs.declared.ending.HostEnd.{HostEnd}
use Rattle.soc_serve.specs.declared.ending.HostEnd.TheVariants as H
use Rattle.soc_serve.specs.Ends.{status_of}
use Rattle.soc_serve.specs.Lines.{CutsLines, counts_text}
use Rattle.soc_serve.specs.Storm.{Storms}
use Rattle.soc_serve.specs.Sweep.{FailsSweep, Sweeps}

-- ---- once the journal is open

-- the last sweep since that desk, and the lines behind it, by the service's end
abbrev pub Closes : Surroundings → Surroundings → HostEnd → Basis → DeskAt → State → Type 0
Closes before after (H.Before end) basis served swept = ⊥
Closes before after (H.Swept fault) basis served swept =
    FailsSweep basis served.state served.faults fault swept after.disk.faults × (after.streams ≡ before.streams)
Closes before after (H.Lines fault) basis served swept =
    Sweeps basis served.state swept × CutsLines before.streams after.streams (counts_text (events basis swept.log)) fault
Closes before after H.Failed basis served swept =
    Sweeps basis served.state swept × Writes before.streams after.streams (counts_text (events basis swept.log))
Closes before after H.Done basis served swept =
    Sweeps basis served.state swept × Writes before.streams after.streams (counts_text (events basis swept.log))

-- a turn's receipt is right for the log before it and the one after it
abbrev pub IsRight : Basis → List Turned → Command → Receipt → List Turned → Type 0
IsRight basis log command receipt log' = ∥ AnswersTurn basis log command receipt log' ∥₁

-- The ring of jobs that a crew leaves which began with these crashes due. Where no thread was started there is none, and the
-- status blames neither a stop nor the listener.
abbrev pub LeavesRing : List (List ℕ) → Crew → ℕ → Option RingEnd → Type 0
LeavesRing due crew status None = ¬ (status ≡ 0) × ¬ (status ≡ 6)
LeavesRing due crew status (Some ring) = Shares (Starts due crew.processors) crew.collectors crew.processors (seen_in ring)

-- The journal is opened. The turns of all collectors and processors, in their order, are one run of a desk from the opened log,
-- and what they have added to it counts so many kept changes and stops. Then comes the last sweep.
pub record HostsDesk (by : Service) (crew : Crew) (kept : ℕ) (ring : Option RingEnd) (before after : Surroundings) (end : HostEnd) : Type 0 where
  pub opening : OpensJournal by.row_of by.digest by.setup.limits before.disk.content
  -- the desk when the journal stood, and when all threads had ended
  pub opened : DeskAt
  pub opened_as : opened.state ≡ settled opening.log
  pub served : DeskAt
  -- what was served
  pub turns : List (Command × Receipt)
  pub runs : RunsTurns (Answers opening.basis after.disk.since) opened turns served
  pub legal : IsLegalState opening.basis served.state
  pub added : List Change
  pub behind : served.state.log ≡ opening.log ++ added
  pub kept_are : kept_in (events opening.basis added) ≡ kept
  -- each seat's turns stand there with their receipts, and nothing else does
  pub seats : List (Knows Command Basis)
  pub seated : ClosesHall IsRight (changes_of opening.basis served.state.log) opening.basis seats
  pub seated_from : seated.opening ≡ changes_of opening.basis opening.log
  -- the jobs that each thread put and took
  pub jobs : LeavesRing (due_ids (events opening.basis opening.log)) crew (status_of end) ring
  -- the sweep and the lines
  pub swept : State
  pub closes : Closes before after end opening.basis served swept
  -- the disk's time and its faults
  pub no_fewer : before.disk.faults ≤ opened.faults
  pub goes_on : GoesOn before.disk after.disk
  -- every stop
  pub survives : IfSome before.disk.content (λ bytes. SurvivesStops before.disk after.disk bytes opened served
      (KeepAllows served.state swept) swept)

-- ---- the whole

-- no file is refused, and the desk is hosted by what they say
pub record HostsBy (crew : Crew) (kept : ℕ) (ring : Option RingEnd) (before after : Outside) (end : HostEnd) : Type 0 where
  pub said : Said
  pub says : Says before.tree.files (Ok said)
  pub hosts : ∥ HostsDesk (service_of said) crew kept ring before.around after.around end ∥₁

-- as a replay ends before its session; the disk is blamed only where it failed
abbrev pub EndsEarly : Outside → Outside → RunEnd → Type 0
EndsEarly before after (R.Served end keeping) = ⊥
EndsEarly before after R.OpenFault = Replays before after R.OpenFault × DiskFailed before.around.disk after.around.disk
EndsEarly before after end = Replays before after end

-- where no desk is hosted there is no ring
abbrev pub Hosts : Crew → ℕ → Option RingEnd → Outside → Outside → HostEnd → Type 0
Hosts crew kept ring before after (H.Before end) = EndsEarly before after end × (ring ≡ None)
Hosts crew kept ring before after (H.Swept fault) = HostsBy crew kept ring before after (H.Swept fault)
Hosts crew kept ring before after (H.Lines fault) = HostsBy crew kept ring before after (H.Lines fault)
Hosts crew kept ring before after H.Failed = HostsBy crew kept ring before after H.Failed
Hosts crew kept ring before after H.Done = HostsBy crew kept ring before after H.Done

-- the usage line is told
abbrev pub TellsOnly : Outside → Outside → HostEnd → Type 0
TellsOnly before after (H.Before end) = TellsHow before after end
TellsOnly before after _ = ⊥

-- a command, by the service's end; the others are carried by another call
abbrev pub HostsTask : Words → Task → ℕ → Option RingEnd → Outside → Outside → HostEnd → Type 0
HostsTask words T.Serve kept ring before after end =
    Hosts (record { collectors = words.collectors; processors = words.processors }) kept ring before after end
HostsTask words T.Storm kept ring before after end = Storms words.count before after end
HostsTask words T.Check kept ring before after end = TellsOnly before after end
HostsTask words T.Make kept ring before after end = TellsOnly before after end
HostsTask words T.Replay kept ring before after end = TellsOnly before after end
HostsTask words T.Export kept ring before after end = TellsOnly before after end

abbrev pub HostsSaid : Option Words → ℕ → Option RingEnd → Outside → Outside → HostEnd → Type 0
HostsSaid None kept ring before after end = TellsOnly before after end
HostsSaid (Some words) kept ring before after end = HostsTask words words.command kept ring before after end

abbrev pub WantsMemoryFirst : Option RingEnd → Outside → Outside → HostEnd → Type 0
WantsMemoryFirst ring before after (H.Before end) = WantsMemory before after end × (ring ≡ None)
WantsMemoryFirst ring before after _ = ⊥

-- the service by what its words say, of whose turns so many changes and stops count as kept, and the ring that its crew leaves
abbrev pub HostsWords : Option Words → ℕ → Option RingEnd → Outside → Outside → HostEnd → Type 0
HostsWords said kept ring before after end = HostsSaid said kept ring before after end ⊎ WantsMemoryFirst ring before after end

-- ---- the listener that is handed in

-- only `serve` hands out the connections of the listener that it is given
abbrev pub IsServe : Option Words → Type 0
IsServe None = ⊥
IsServe (Some words) = words.command ≡ T.Serve

-- ---- faults

-- whatever the service did, the files are as they were, nothing was read, and no fault is forgotten
pub record HostsOn (before after : Outside) : Type 0 where
  pub tree : OnlyLooks before.tree after.tree
  pub streams : OnlyWrites before.around.streams after.around.streams
  pub maker : before.maker ≤ after.maker

-- each status that blames output, tree or maker comes only where that one failed
pub record HostHasCause (before after : Outside) (status : ℕ) : Type 0 where
  pub output : status ≡ 7 → WriteFailed before.around.streams after.around.streams
  pub tree : status ≡ 8 → TreeFailed before.tree after.tree
  pub maker : status ≡ 11 → Rose before.maker after.maker
