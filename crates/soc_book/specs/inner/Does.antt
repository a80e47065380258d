-- What a command over a book does, whatever the disk tells and where it tells its content; a receipt and the log's length
-- are not spoken of.
use Rattle.std.specs.Prelude.{◌≡◌, ◌⊎◌, false, IsTrue, List, ◌++◌, IsSomeAnd, ⊤}
use Rattle.soc_edge.specs.Disk.{DiskTold, GoesOn, DiskFailed}
use Rattle.soc_ledger.specs.declared.event.Event.{Event}
use Rattle.soc_desk.specs.declared.desk.Command.{Command}
use Rattle.soc_desk.specs.declared.desk.Command.TheVariants as C
use Rattle.soc_desk.specs.declared.desk.Reply.{Reply}
use Rattle.soc_desk.specs.declared.desk.Reply.TheVariants as R
use Rattle.soc_desk.specs.declared.desk.Refusal.TheVariants as F
use Rattle.soc_desk.specs.Asks.{Gains, IsStoreFault, IsAltered}
use Rattle.soc_desk.specs.Basis.{Basis}
use Rattle.soc_desk.specs.Decisions.{decide}
use Rattle.soc_desk.specs.Desk.{Decides, FailsRead, Step}
use Rattle.soc_desk.specs.Grows.{Submits, Prioritises, Reprocesses, Withdraws}
use Rattle.soc_desk.specs.Kinds.{IsReplyTo}
use Rattle.soc_desk.specs.Log.{Change, events}
use Rattle.soc_desk.specs.State.{State, settled, doubted, Survives}

-- what a command does to the state and the disk
pub record Does (basis : Basis) (before : State) (disk : DiskTold) (command : Command) (reply : Reply) (after : State) (disk' : DiskTold) : Type 0 where
  pub kind : IsReplyTo command reply
  pub gains : Gains basis before command reply after
  pub goes_on : GoesOn disk disk'
  pub fault : IsStoreFault reply → DiskFailed disk disk'
  pub altered : IsAltered reply → basis.is_told ≡ false
  pub step : IsTrue basis.is_told → Step basis before command reply after
  pub survives : IsTrue basis.is_told → Survives disk disk' before after

-- ---- commands that write, once the doubt is settled

-- what a command that writes adds to a settled log under its reply, and what is in doubt afterwards
abbrev pub Adds : Basis → Command → Reply → List Event → List Event → List Event → Type 0
Adds basis (C.Submit raw) = Submits basis raw.id
Adds basis (C.Priority caller id) = Prioritises caller id
Adds basis (C.Reprocess caller id) = Reprocesses caller id
Adds basis (C.Withdraw caller id) = Withdraws caller id
Adds basis _ = λ reply after log own. ⊥

-- not one of the refusals that come before the doubt is settled
abbrev pub IsSettledReply : Reply → Type 0
IsSettledReply (R.Refused F.NoMemory) = ⊥
IsSettledReply (R.Refused (F.NoPermission name)) = ⊥
IsSettledReply _ = ⊤

-- what a settled log answers, and what is written
pub record IsDecided (basis : Basis) (log : List Change) (disk : DiskTold) (command : Command) (reply : Reply) (after : State) (disk' : DiskTold) : Type 0 where
  pub kind : IsReplyTo command reply
  pub plain : IsSettledReply reply
  pub own : List Change
  pub behind : after.log ≡ log ++ own
  pub adds : Adds basis command reply (doubted basis after) (events basis log) (events basis own)
  pub goes_on : GoesOn disk disk'
  pub fault : IsStoreFault reply → DiskFailed disk disk'
  pub decides : IsTrue basis.is_told → IsSomeAnd (decide basis log command) (λ decision. Decides basis log decision reply after) ⊎ FailsRead basis log command reply after
  pub survives : IsTrue basis.is_told → Survives disk disk' (settled log) after
