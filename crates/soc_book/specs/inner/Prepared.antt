-- A prepared command: the command itself, and what is computed of it.
use Rattle.std.specs.Prelude.{◌≡◌, IfOk, ⊤}
use Rattle.soc_raw.specs.RawCrash.{crash_of}
use Rattle.soc_desk.specs.declared.desk.Command.{Command}
use Rattle.soc_desk.specs.declared.desk.Command.TheVariants as C
use Rattle.soc_desk.specs.Log.{ask, withdraw}
use Rattle.soc_desk.specs.State.{entry_of}
use Rattle.soc_book.specs.declared.prepared.Work.{Work}
use Rattle.soc_book.specs.declared.prepared.Work.TheVariants as W
use Rattle.soc_book.specs.inner.Books.{IsSubmissionOf}

-- the command
abbrev pub command_of : Work → Command
command_of (W.Submit raw submission) = C.Submit raw.value
command_of (W.Priority caller id entry) = C.Priority caller id
command_of (W.Reprocess caller id entry) = C.Reprocess caller id
command_of (W.Withdraw caller id entry) = C.Withdraw caller id
command_of (W.Plain command) = command

-- it writes nothing
abbrev pub IsPlain : Command → Type 0
IsPlain (C.Submit raw) = ⊥
IsPlain (C.Priority caller id) = ⊥
IsPlain (C.Reprocess caller id) = ⊥
IsPlain (C.Withdraw caller id) = ⊥
IsPlain _ = ⊤

-- what is computed is that of the command, where no allocation failed
abbrev pub IsPrepared : Work → Type 0
IsPrepared (W.Submit raw submission) = IfOk submission (λ made. IsSubmissionOf made (crash_of raw.value))
IsPrepared (W.Priority caller id entry) = IfOk entry (λ made. made ≡ entry_of (ask id))
IsPrepared (W.Reprocess caller id entry) = IfOk entry (λ made. made ≡ entry_of (ask id))
IsPrepared (W.Withdraw caller id entry) = IfOk entry (λ made. made ≡ entry_of (withdraw id))
IsPrepared (W.Plain command) = IsPlain command
