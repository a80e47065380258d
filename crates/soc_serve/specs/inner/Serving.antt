-- The service over a desk, by its end.
use Rattle.std.specs.Prelude.{◌≡◌, ℕ, Option, None}
use Rattle.soc_edge.specs.Disk.{DiskTold, DiskFailed}
use Rattle.soc_edge.specs.World.{Surroundings}
use Rattle.soc_pool.specs.declared.pass.RingEnd.{RingEnd}
use Rattle.soc_desk.specs.Basis.{Basis}
use Rattle.soc_desk.specs.Runs.{DeskAt}
use Rattle.soc_desk.specs.State.{State}
use Rattle.soc_crew.specs.declared.crew.Crew.{Crew}
use Rattle.soc_replay.specs.declared.ending.RunEnd.{RunEnd}
use Rattle.soc_replay.specs.Ends as run
use Rattle.soc_replay.specs.Opening.{OpensNot}
use Rattle.soc_replay.specs.Serving.{Service}
use Rattle.soc_serve.specs.declared.ending.HostEnd.{HostEnd}
use Rattle.soc_serve.specs.declared.ending.HostEnd.TheVariants as H
use Rattle.soc_serve.specs.Hosts.{Closes, HostsDesk}
use Rattle.soc_serve.specs.inner.Sweeping.{LeavesMore}

-- the desk over the disk as it is now
abbrev pub desk_at : State → DiskTold → DeskAt
desk_at state disk = record { state = state; moment = disk.moment; faults = disk.faults }

-- the end of the service over a disk
pub record ClosesBook (before after : Surroundings) (end : HostEnd) (basis : Basis) (closed swept : State) : Type 0 where
  pub ends : Closes before after end basis (desk_at closed before.disk) swept
  pub leaves : LeavesMore basis closed before.disk swept after.disk

-- the journal wasn't opened, and the disk is blamed only where it failed
pub record EndsOpening (before after : Surroundings) (end : RunEnd) : Type 0 where
  pub not : OpensNot before after end
  pub cause : run.status_of end ≡ 4 → DiskFailed before.disk after.disk

abbrev pub ServesDesk : Service → Crew → ℕ → Option RingEnd → Surroundings → Surroundings → HostEnd → Type 0
ServesDesk by crew kept ring before after (H.Before end) = EndsOpening before after end × (ring ≡ None)
ServesDesk by crew kept ring before after end = ∥ HostsDesk by crew kept ring before after end ∥₁
