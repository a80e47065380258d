-- What a desk over a disk does with a command: always what its reply, its log and the disk's calls tell, and where the disk
-- tells its content a step that outlives stops.
use Rattle.std.specs.Prelude.{◌≡◌, ℕ, ◌^◌, ◌<◌, false, IsTrue, List, ◌++◌, length, ⊤}
use Rattle.soc_edge.specs.Disk.{DiskTold, GoesOn, DiskFailed}
use Rattle.soc_ledger.specs.Events.{has_stop}
use Rattle.soc_desk.specs.declared.desk.Command.{Command}
use Rattle.soc_desk.specs.declared.desk.Receipt.{Receipt}
use Rattle.soc_desk.specs.declared.desk.Reply.{Reply}
use Rattle.soc_desk.specs.declared.desk.Reply.TheVariants as R
use Rattle.soc_desk.specs.declared.desk.Refusal.TheVariants as F
use Rattle.soc_desk.specs.Basis.{Basis}
use Rattle.soc_desk.specs.Desk.{Step}
use Rattle.soc_desk.specs.Grows.{Grows}
use Rattle.soc_desk.specs.Kinds.{IsReplyTo}
use Rattle.soc_desk.specs.Log.{Change, events}
use Rattle.soc_desk.specs.State.{State, doubted, IsLegalState, Allowed, Survives}

-- the old log is a front of the new one, what is behind it is what the command adds under its reply, and so is what is in doubt
pub record Gains (basis : Basis) (before : State) (command : Command) (reply : Reply) (after : State) : Type 0 where
  pub piece : List Change
  pub behind : after.log ≡ before.log ++ piece
  pub grows : Grows basis (events basis before.log) (doubted basis before) command reply (events basis piece) (doubted basis after)

abbrev pub IsStoreFault : Reply → Type 0
IsStoreFault (R.Refused F.StoreFault) = ⊤
IsStoreFault _ = ⊥

abbrev pub IsAltered : Reply → Type 0
IsAltered (R.Refused (F.Altered id)) = ⊤
IsAltered _ = ⊥

pub record Asks (basis : Basis) (before : State) (disk : DiskTold) (command : Command) (receipt : Receipt) (after : State) (disk' : DiskTold) : Type 0 where
  -- whatever the disk tells
  pub kind : IsReplyTo command receipt.reply
  pub gains : Gains basis before command receipt.reply after
  pub legal : IsLegalState basis after
  pub front : receipt.front ≡ length after.log
  pub short : length after.log < 2 ^ 60
  pub stopped : receipt.stopped ≡ has_stop (events basis after.log)
  pub goes_on : GoesOn disk disk'
  pub fault : IsStoreFault receipt.reply → DiskFailed disk disk'
  pub altered : IsAltered receipt.reply → basis.is_told ≡ false
  -- where it tells its content
  pub step : IsTrue basis.is_told → Step basis before command receipt.reply after
  pub survives : IsTrue basis.is_told → Survives disk disk' before after
  pub allowed : IsTrue basis.is_told → (image : List ℕ) → disk'.images image → Allowed after image
