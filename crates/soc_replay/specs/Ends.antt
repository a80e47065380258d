-- The status that a run's end gives. This project's profile.
use Rattle.std.specs.Prelude.{ℕ}
use Rattle.soc_session.specs.declared.ending.SessionEnd.{SessionEnd}
use Rattle.soc_session.specs.declared.ending.SessionEnd.TheVariants.{Ended, Closed, Stopped, Refused, ReadFault, WriteFault, TooLong, NoMemory}
use Rattle.soc_replay.specs.declared.ending.Keeping.{Keeping}
use Rattle.soc_replay.specs.declared.ending.Keeping.TheVariants as K
use Rattle.soc_replay.specs.declared.ending.RunEnd.{RunEnd}
use Rattle.soc_replay.specs.declared.ending.RunEnd.TheVariants as R

-- the status that a session's end gives
abbrev pub session_status : SessionEnd → ℕ
session_status Ended = 0
session_status Closed = 0
session_status Stopped = 0
session_status Refused = 1
session_status ReadFault = 6
session_status WriteFault = 7
session_status TooLong = 9
session_status NoMemory = 10

-- where reports couldn't be kept, that decides
abbrev pub served_status : SessionEnd → Keeping → ℕ
served_status end K.Nothing = session_status end
served_status end (K.Done count) = session_status end
served_status end K.Fault = 4
served_status end K.NoMemory = 10

-- the status that a run's end gives
abbrev pub status_of : RunEnd → ℕ
status_of (R.Served end keeping) = served_status end keeping
status_of R.Written = 0
status_of R.Usage = 2
status_of R.TextRefused = 3
status_of R.JournalRefused = 5
status_of R.LineFault = 7
status_of R.TreeFault = 8
status_of R.MakerFault = 11
status_of R.OpenFault = 4
status_of R.InputFault = 6
status_of R.NoMemory = 10
