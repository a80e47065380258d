-- Which replies a command may get, whatever the disk tells: that its caller lacks the permission, exactly where that is so;
-- else one of the command's own kind, with its own id, and with granted fields and annotations alone.
use Rattle.std.specs.Prelude.{◌≡◌, ℕ, IsTrue, List, map, None, Some, ⊤}
use Rattle.std.specs.List.{AllByRecursion}
use Rattle.soc_schema.specs.Fields.{permission_of_annotation}
use Rattle.soc_schema.specs.Permits.{holds, is_granted}
use Rattle.soc_ledger.specs.Due.{is_due_at_once}
use Rattle.soc_desk.specs.declared.desk.Command.{Command}
use Rattle.soc_desk.specs.declared.desk.Command.TheVariants as C
use Rattle.soc_desk.specs.declared.desk.Reply.{Reply}
use Rattle.soc_desk.specs.declared.desk.Reply.TheVariants as R
use Rattle.soc_desk.specs.declared.desk.Refusal.{Refusal}
use Rattle.soc_desk.specs.declared.desk.Refusal.TheVariants as F
use Rattle.soc_desk.specs.Decisions.{lacked}

-- the refusals of what is written to the journal
abbrev pub RefusesWrite : Refusal → Type 0
RefusesWrite F.StoreFault = ⊤
RefusesWrite F.JournalFull = ⊤
RefusesWrite F.NoMemory = ⊤
RefusesWrite _ = ⊥

abbrev pub RefusesSubmission : List ℕ → Refusal → Type 0
RefusesSubmission id (F.OtherContent other) = other ≡ id
RefusesSubmission id (F.Withdrawn other) = other ≡ id
RefusesSubmission id F.TooManyCrashes = ⊤
RefusesSubmission id refusal = RefusesWrite refusal

-- of what reads a raw crash from the disk
abbrev pub RefusesReading : List ℕ → Refusal → Type 0
RefusesReading id F.StoreFault = ⊤
RefusesReading id (F.Altered other) = other ≡ id
RefusesReading id F.NoMemory = ⊤
RefusesReading id _ = ⊥

abbrev pub RefusesAsk : Refusal → Type 0
RefusesAsk F.NoCrash = ⊤
RefusesAsk refusal = RefusesWrite refusal

abbrev pub RefusesRaw : List ℕ → Refusal → Type 0
RefusesRaw id F.NoCrash = ⊤
RefusesRaw id refusal = RefusesReading id refusal

abbrev pub RefusesProcessed : Refusal → Type 0
RefusesProcessed F.NoCrash = ⊤
RefusesProcessed F.NotProcessed = ⊤
RefusesProcessed F.NoMemory = ⊤
RefusesProcessed _ = ⊥

abbrev pub IsNoMemory : Refusal → Type 0
IsNoMemory F.NoMemory = ⊤
IsNoMemory _ = ⊥

-- of turns, which name the crash that they read
abbrev pub RefusesTurn : Refusal → Type 0
RefusesTurn F.StoreFault = ⊤
RefusesTurn (F.Altered _) = ⊤
RefusesTurn F.NoMemory = ⊤
RefusesTurn _ = ⊥

-- a refusal that the desk's tables have for the command where its caller lacks no permission
abbrev pub MayRefuse : Command → Refusal → Type 0
MayRefuse (C.Submit raw) refusal = RefusesSubmission raw.id refusal
MayRefuse (C.Priority caller id) refusal = RefusesAsk refusal
MayRefuse (C.Reprocess caller id) refusal = RefusesAsk refusal
MayRefuse (C.Withdraw caller id) refusal = RefusesAsk refusal
MayRefuse (C.Raw caller id) refusal = RefusesRaw id refusal
MayRefuse (C.Processed caller id) refusal = RefusesProcessed refusal
MayRefuse (C.Dump caller id name) refusal = RefusesRaw id refusal
MayRefuse (C.Stack caller id) refusal = RefusesRaw id refusal
MayRefuse (C.Search query) refusal = IsNoMemory refusal
MayRefuse (C.Tops query) refusal = IsNoMemory refusal
MayRefuse (C.Turn caller) refusal = RefusesTurn refusal
MayRefuse (C.Drain caller) refusal = RefusesTurn refusal
MayRefuse (C.Stop caller) refusal = IsNoMemory refusal
MayRefuse (C.Fetch id) refusal = RefusesRaw id refusal
MayRefuse (C.Finish processed) refusal = IsNoMemory refusal
MayRefuse (C.Counts caller) refusal = ⊥

-- what is answered of the command's own kind
abbrev pub IsOwnReply : Command → Reply → Type 0
IsOwnReply (C.Submit raw) (R.Stored id due) = (id ≡ raw.id) × (due ≡ is_due_at_once raw.id)
IsOwnReply (C.Submit raw) (R.Repeated id) = id ≡ raw.id
IsOwnReply (C.Priority caller id) (R.Asked asked due) = due ≡ asked
IsOwnReply (C.Reprocess caller id) (R.Asked asked due) = IsTrue asked × (due ≡ asked)
IsOwnReply (C.Withdraw caller id) R.Withdrawn = ⊤
IsOwnReply (C.Raw caller id) (R.Raw annotations) =
    AllByRecursion (λ pair. IsTrue (holds caller.permissions (permission_of_annotation pair.0))) annotations
IsOwnReply (C.Processed caller id) (R.Row row) = AllByRecursion (λ cell. IsTrue (is_granted caller cell.field)) row
IsOwnReply (C.Dump caller id name) (R.Dump bytes) = ⊤
IsOwnReply (C.Stack caller id) (R.Record raw) = raw.id ≡ id
IsOwnReply (C.Search query) (R.Found answer) =
    (answer.columns ≡ query.columns) × (map (λ facet. facet.field) answer.facets ≡ query.facets)
    × AllByRecursion (λ hit. AllByRecursion (λ cell. IsTrue (is_granted query.caller cell.field)) hit) answer.hits
IsOwnReply (C.Tops query) (R.Tops tops) = ⊤
IsOwnReply (C.Turn caller) (R.Turned processed) = ⊤
IsOwnReply (C.Drain caller) (R.Drained count) = ⊤
IsOwnReply (C.Stop caller) R.Stopping = ⊤
IsOwnReply (C.Fetch id) (R.Fetched None) = ⊤
IsOwnReply (C.Fetch id) (R.Fetched (Some raw)) = raw.id ≡ id
IsOwnReply (C.Finish processed) (R.Finished changed) = ⊤
IsOwnReply (C.Counts caller) (R.Counted counts) = ⊤
IsOwnReply command (R.Refused refusal) = MayRefuse command refusal
IsOwnReply _ _ = ⊥

-- a reply that the desk's tables have for the command: that its caller lacks a permission, or, where none is lacked, its own
abbrev pub IsReplyTo : Command → Reply → Type 0
IsReplyTo command (R.Refused (F.NoPermission name)) = lacked command ≡ Some name
IsReplyTo command reply = (lacked command ≡ None) × IsOwnReply command reply

-- the command may be asked at any time
abbrev pub NeedsNothing : Command → Type 0
NeedsNothing (C.Finish processed) = ⊥
NeedsNothing _ = ⊤
