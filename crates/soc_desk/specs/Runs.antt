-- What a desk over a journal goes through: its log, its disk's own clock and faults, and what stops of the machine may leave.
-- This project's profile.
use Rattle.std.specs.Prelude.{◌≡◌, ◌⊎◌, ℕ, ◌≤◌, ◌<◌, ◌^◌, false, IsTrue, List, length}
use Rattle.soc_edge.specs.Faults.{Rose}
use Rattle.soc_ledger.specs.Events.{has_stop}
use Rattle.soc_desk.specs.declared.desk.Command.{Command}
use Rattle.soc_desk.specs.declared.desk.Receipt.{Receipt}
use Rattle.soc_desk.specs.Asks.{Gains, IsAltered, IsStoreFault}
use Rattle.soc_desk.specs.Basis.{Basis}
use Rattle.soc_desk.specs.Desk.{Step}
use Rattle.soc_desk.specs.Kinds.{IsReplyTo}
use Rattle.soc_desk.specs.Laws.{HasAll}
use Rattle.soc_desk.specs.Log.{events}
use Rattle.soc_desk.specs.State.{State, IsLegalState, Allowed, kept_of}

-- a desk between two commands: its state, the moment of the disk's own clock, and how many of the disk's calls have failed
pub record DeskAt : Type 0 where
  pub state : State
  pub moment : ℕ
  pub faults : ℕ

-- What a desk over a journal did with a command, as its log and its disk tell: always what its reply says, and where the disk
-- tells its content a step that outlives stops. `left` has, for each moment, what a stop since then might have left.
pub record Answers (basis : Basis) (left : ℕ → List ℕ → Type 0) (before : DeskAt) (command : Command) (receipt : Receipt) (after : DeskAt) : Type 0 where
  -- whatever the disk tells
  pub kind : IsReplyTo command receipt.reply
  pub gains : Gains basis before.state command receipt.reply after.state
  pub legal : IsLegalState basis after.state
  pub front : receipt.front ≡ length after.state.log
  pub short : length after.state.log < 2 ^ 60
  pub stopped : receipt.stopped ≡ has_stop (events basis after.state.log)
  pub later : before.moment ≤ after.moment
  pub no_fewer : before.faults ≤ after.faults
  pub fault : IsStoreFault receipt.reply → Rose before.faults after.faults
  pub altered : IsAltered receipt.reply → basis.is_told ≡ false
  -- where it tells its content
  pub step : IsTrue basis.is_told → Step basis before.state command receipt.reply after.state
  -- a stop since the moment before leaves what the state before or the one after allows, or it is one since the answer
  pub survives : IsTrue basis.is_told → (image : List ℕ) → left before.moment image
      → (Allowed before.state image ⊎ Allowed after.state image) ⊎ left after.moment image
  -- a stop since the answer leaves all that was kept by then
  pub outlives : IsTrue basis.is_told → (image : List ℕ) → left after.moment image → HasAll (kept_of after.state.log) image
