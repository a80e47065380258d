-- A service over a journal is a life of the desk. This project's profile.
use Rattle.std.specs.Prelude.{◌≡◌, ℕ, List, ◌++◌, Option, Some, ⊤}
use Rattle.std.specs.List.{AllByRecursion}
use Rattle.soc_edge.specs.Ahead.{Outlook}
use Rattle.soc_edge.specs.Disk.{DiskTold}
use Rattle.soc_edge.specs.Told.{Told}
use Rattle.soc_edge.specs.World.{surroundings}
use Rattle.soc_desk.specs.declared.desk.Command.TheVariants as C
use Rattle.soc_desk.specs.Log.{Kept}
use Rattle.soc_desk.specs.Opens.{log_of}
use Rattle.soc_lives.specs.Lives.{Action, asking, keeping}
use Rattle.soc_lives.specs.Runs.{IsLife, actions_of}
use Rattle.soc_pool.specs.declared.pass.RingEnd.{RingEnd}
use Rattle.soc_crew.specs.declared.crew.Crew.{Crew}
use Rattle.soc_replay.specs.Serving.{Service}
use Rattle.soc_serve.specs.declared.ending.HostEnd.{HostEnd}
use Rattle.soc_serve.specs.Hosts.{HostsDesk}

-- reports are kept, or what is due is processed
abbrev pub IsOfSweep : Action → Type 0
IsOfSweep (keeping reply) = ⊤
IsOfSweep (asking (C.Drain caller) reply) = ⊤
IsOfSweep _ = ⊥

-- Over a disk that holds these bytes, a service is a life: it opens with the journal's changes and goes by the basis of its
-- files, and what it does is all threads' turns in their order, and the last sweep.
abbrev pub ServicesAreLives : DiskTold → DiskTold → Type 0
ServicesAreLives disk disk' = (bytes : List ℕ) → disk.content ≡ Some bytes
    → (by : Service) (crew : Crew) (kept : ℕ) (ring : Option RingEnd) (streams streams' : Told) (ahead ahead' : Outlook) (end : HostEnd)
    → (run : HostsDesk by crew kept ring (surroundings streams disk ahead) (surroundings streams' disk' ahead') end)
    → (opening : List Kept) × (run.opening.log ≡ log_of opening)
    × (swept : List Action) × AllByRecursion IsOfSweep swept
    × IsLife run.opening.basis disk'.since bytes opening run.opened.moment (actions_of run.turns ++ swept) run.swept
