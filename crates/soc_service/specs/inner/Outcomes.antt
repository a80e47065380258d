-- How a reply is read as what became of a crash.
use Rattle.std.specs.Prelude.{Option, None, Some, if◌then◌else◌}
use Rattle.soc_raw.specs.declared.raw_crash.RawCrash.{RawCrash}
use Rattle.soc_desk.specs.declared.desk.Refusal.TheVariants as F
use Rattle.soc_desk.specs.declared.desk.Reply.{Reply}
use Rattle.soc_desk.specs.declared.desk.Reply.TheVariants as R
use Rattle.soc_service.specs.declared.process.Outcome.{Outcome}
use Rattle.soc_service.specs.declared.process.Outcome.TheVariants as O

abbrev pub gives : RawCrash → Reply
gives raw = R.Fetched (Some raw)

abbrev pub fetched_as : Reply → Option Outcome
fetched_as (R.Fetched None) = Some O.Stale
fetched_as (R.Refused F.NoCrash) = Some O.Stale
fetched_as (R.Refused F.StoreFault) = Some O.Missed
fetched_as (R.Refused (F.Altered id)) = Some O.Missed
fetched_as _ = None

abbrev pub finished_as : Reply → Option Outcome
finished_as (R.Finished changed) = if changed then Some O.Made else Some O.Stale
finished_as _ = None
