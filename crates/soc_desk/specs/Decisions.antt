-- What a settled log decides of the commands that write. This project's profile.
use Rattle.std.specs.Prelude.{ℕ, nat_le, ◌||◌, if◌then◌else◌, List, length, bytes_eq, Option, None, Some, true, false}
use Rattle.std.specs.Option.{option_map_or}
use Rattle.soc_raw.specs.RawCrash.{crash_of}
use Rattle.soc_raw.specs.Record.{Crash, content_text}
use Rattle.soc_schema.specs.declared.caller.Caller.{Caller}
use Rattle.soc_schema.specs.declared.permission.Permission.{Permission}
use Rattle.soc_schema.specs.declared.permission.Permission.TheVariants.{ViewRawdump, ReprocessCrashes, Operate}
use Rattle.soc_schema.specs.Permits.{holds}
use Rattle.soc_ledger.specs.Events.{was_withdrawn, accepted_ids}
use Rattle.soc_ledger.specs.Due.{is_due, is_due_at_once}
use Rattle.soc_ledger.specs.Reported.{has_report}
use Rattle.soc_desk.specs.declared.desk.Command.{Command}
use Rattle.soc_desk.specs.declared.desk.Command.TheVariants as C
use Rattle.soc_desk.specs.declared.desk.Reply.{Reply}
use Rattle.soc_desk.specs.declared.desk.Reply.TheVariants as R
use Rattle.soc_desk.specs.declared.desk.Refusal.TheVariants as F
use Rattle.soc_desk.specs.Basis.{Basis}
use Rattle.soc_desk.specs.Log.{Kept, accept, ask, withdraw, Change, events, raw_of}
use Rattle.soc_desk.specs.View.{view_of, is_in}

-- the permission where the caller lacks it
abbrev pub without : Caller → Permission → Option Permission
without caller permission = if holds caller.permissions permission then None else Some permission

-- the permission that a command needs and its caller lacks
abbrev pub lacked : Command → Option Permission
lacked (C.Submit raw) = None
lacked (C.Priority caller id) = None
lacked (C.Reprocess caller id) = without caller ReprocessCrashes
lacked (C.Withdraw caller id) = without caller Operate
lacked (C.Raw caller id) = None
lacked (C.Processed caller id) = None
lacked (C.Dump caller id name) = without caller ViewRawdump
lacked (C.Stack caller id) = None
lacked (C.Search query) = None
lacked (C.Tops query) = None
lacked (C.Turn caller) = without caller Operate
lacked (C.Drain caller) = without caller Operate
lacked (C.Stop caller) = without caller Operate
lacked (C.Fetch id) = None
lacked (C.Finish processed) = None
lacked (C.Counts caller) = without caller Operate

-- what is decided: a reply, or one more change and the reply once it is written
pub data Decision : Type 0 where
  answers : Reply → Decision
  appends : Kept → Reply → Decision

abbrev pub accepting : Crash → Kept
accepting raw = accept record { id = raw.id; raw = Some raw }

-- a submission with the id of an accepted crash: has it the same content?
abbrev pub decide_repeated : Crash → Crash → Decision
decide_repeated raw held =
    if bytes_eq (content_text held) (content_text raw) then answers (R.Repeated raw.id) else answers (R.Refused (F.OtherContent raw.id))

abbrev pub decide_new : Basis → List Change → Crash → Decision
decide_new basis log raw =
    if nat_le basis.crashes (length (accepted_ids (events basis log))) then answers (R.Refused F.TooManyCrashes)
    else appends (accepting raw) (R.Stored raw.id (is_due_at_once raw.id))

abbrev pub decide_submission : Basis → List Change → Crash → Decision
decide_submission basis log raw =
    if was_withdrawn (events basis log) raw.id then answers (R.Refused (F.Withdrawn raw.id))
    else option_map_or (decide_repeated raw) (raw_of log raw.id) (decide_new basis log raw)

-- of a crash that the caller's view has
abbrev pub if_seen : Basis → List Change → Caller → List ℕ → Decision → Decision
if_seen basis log caller id decision =
    if is_in (view_of basis log caller) id then decision else answers (R.Refused F.NoCrash)

abbrev pub decide_priority : Basis → List Change → List ℕ → Decision
decide_priority basis log id =
    if is_due (events basis log) id || has_report (events basis log) id then answers (R.Asked false false)
    else appends (ask id) (R.Asked true true)

-- what the desk's tables decide of a command that writes, where nothing stands before mending
abbrev pub decide : Basis → List Change → Command → Option Decision
decide basis log (C.Submit raw) = Some (decide_submission basis log (crash_of raw))
decide basis log (C.Priority caller id) = Some (if_seen basis log caller id (decide_priority basis log id))
decide basis log (C.Reprocess caller id) = Some (if_seen basis log caller id (appends (ask id) (R.Asked true true)))
decide basis log (C.Withdraw caller id) = Some (if_seen basis log caller id (appends (withdraw id) R.Withdrawn))
decide basis log _ = None
