-- One turn in the hall of a shared desk, as the desk's command and receipt.
use Rattle.std.specs.Prelude.{◌≡◌, ℕ, Some}
use Rattle.soc_hall.specs.declared.logged.Logged as logged
use Rattle.soc_hall.specs.declared.seats.HallSeat.{HallSeat}
use Rattle.soc_hall.specs.declared.view.Known.{Known}
use Rattle.soc_hall.specs.Asked.{Asks}
use Rattle.soc_hall.specs.Seats.{seen_of}
use Rattle.soc_desk.specs.declared.desk.Command.{Command}
use Rattle.soc_desk.specs.declared.desk.Receipt.{Receipt}
use Rattle.soc_desk.specs.Basis.{Basis}
use Rattle.soc_service.specs.declared.change.Change.{Change}
use Rattle.soc_service.specs.Answers.{MayAsk}

-- a shared desk as its hall sees it: T are its states, A what is asked of them, and B what no turn changes
abbrev pub Shared : Type 0 → Type 0 → Type 0 → Type 1
Shared T A B = logged.Ghosts T A Receipt Change B

-- a seat of its hall, over what lies in the slot, and what it knows
abbrev pub SeatOf : Type 0 → Type 0 → Type 0 → Type 0
SeatOf S A B = HallSeat S B Change A Receipt

abbrev pub Knows : Type 0 → Type 0 → Type 0
Knows A B = Known B Change A Receipt

-- the seat knows enough to ask the command
abbrev pub MayTurn : {A B : Type 0} → (B → Basis) → Knows A B → Command → Type 0
MayTurn {A} {B} desk_of v command = (basis : B) → v.basis ≡ Some basis → MayAsk (desk_of basis) (seen_of v) command

module _ {T A B : Type 0} (desk : Shared T A B) (command_of : A → Command) where
  -- a seat asked this very command in one turn, which was answered so
  pub record Turn (v : Knows A B) (command : Command) (receipt : Receipt) (w : Knows A B) : Type 0 where
    pub start : ℕ
    pub front : ℕ
    pub prepared : A
    pub of_command : command_of prepared ≡ command
    pub asked : Asks desk.log_of desk.basis_of desk.asks desk.answers v prepared (record { start = start; front = front; reply = receipt }) w
