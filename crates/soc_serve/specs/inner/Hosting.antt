-- Who serves, and by what.
use Rattle.std.specs.Prelude.{ℕ, ◌<◌, ◌≤◌, Option, Ok}
use Rattle.soc_crew.specs.declared.crew.Crew.{Crew}
use Rattle.soc_edge.specs.World.{Outside}
use Rattle.soc_pool.specs.declared.pass.RingEnd.{RingEnd}
use Rattle.soc_replay.specs.Files.{Said, Says}
use Rattle.soc_replay.specs.Replay.{service_of}
use Rattle.soc_serve.specs.declared.ending.HostEnd.{HostEnd}
use Rattle.soc_serve.specs.inner.Serving.{ServesDesk}

-- the desk is served by what the files say
pub record HostsFiles (crew : Crew) (kept : ℕ) (ring : Option RingEnd) (before after : Outside) (end : HostEnd) : Type 0 where
  pub said : Said
  pub says : Says before.tree.files (Ok said)
  pub serves : ServesDesk (service_of said) crew kept ring before.around after.around end

-- from 1 to 8 collectors, and so many processors
abbrev pub IsCrew : Crew → Type 0
IsCrew crew = (0 < crew.collectors) × (crew.collectors ≤ 8) × (0 < crew.processors) × (crew.processors ≤ 8)
