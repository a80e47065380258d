-- The status that the service's end gives. This project's profile.
use Rattle.std.specs.Prelude.{ℕ}
use Rattle.soc_replay.specs.Ends as run
use Rattle.soc_serve.specs.declared.ending.HostEnd.{HostEnd}
use Rattle.soc_serve.specs.declared.ending.HostEnd.TheVariants as H
use Rattle.soc_serve.specs.declared.lines.LinesFault.TheVariants as L
use Rattle.soc_serve.specs.declared.sweep.SweepFault.TheVariants as S

abbrev pub status_of : HostEnd → ℕ
status_of (H.Before end) = run.status_of end
status_of (H.Swept S.Disk) = 4
status_of (H.Swept S.NoMemory) = 10
status_of (H.Lines L.Cut) = 7
status_of (H.Lines L.NoMemory) = 10
status_of H.Failed = 6
status_of H.Done = 0
