-- When a command may be asked of a shared desk, and what a turn gives its seat.
use Rattle.std.specs.Prelude.{◌≡◌, ◌^◌, ◌<◌, true, false, IsTrue, List, ◌++◌, length, None, Some, ⊤}
use Rattle.std.specs.List.{AllByRecursion}
use Rattle.soc_raw.specs.RawCrash.{record_text}
use Rattle.soc_raw.specs.Record.{IsCrash, record_of}
use Rattle.soc_ledger.specs.declared.event.Event.{Event}
use Rattle.soc_ledger.specs.Due.{is_due}
use Rattle.soc_ledger.specs.Events.{has_stop}
use Rattle.soc_desk.specs.declared.desk.Command.{Command}
use Rattle.soc_desk.specs.declared.desk.Command.TheVariants as C
use Rattle.soc_desk.specs.declared.desk.Receipt.{Receipt}
use Rattle.soc_desk.specs.declared.desk.Refusal.TheVariants as F
use Rattle.soc_desk.specs.declared.desk.Reply.{Reply}
use Rattle.soc_desk.specs.declared.desk.Reply.TheVariants as R
use Rattle.soc_desk.specs.Asks.{IsAltered}
use Rattle.soc_desk.specs.Basis.{Basis}
use Rattle.soc_desk.specs.Grows.{Grows}
use Rattle.soc_desk.specs.Kinds.{IsReplyTo}
use Rattle.soc_service.specs.declared.change.Change.{Change}
use Rattle.soc_service.specs.Changes.{counts, events_in, text_in}

-- A finished crash has the row that the desk's reporter gives, and where the disk tells its content its record stands in the log.
abbrev pub MayAsk : Basis → List Change → Command → Type 0
MayAsk basis log (C.Finish processed) = (processed.row ≡ basis.row_of processed.crash)
    × (IsTrue basis.is_told → IsCrash processed.crash × (text_in log processed.crash.id ≡ Some (record_of processed.crash)))
MayAsk basis log _ = ⊤

-- a crash that was fetched has the record with which it was accepted
abbrev pub FetchesText : List Change → Command → Reply → Type 0
FetchesText log (C.Fetch id) (R.Fetched (Some raw)) = text_in log id ≡ Some (record_text raw)
FetchesText log _ _ = ⊤

-- a fetch that gives no raw crash, and a finish that changes nothing, tell that the crash isn't due
abbrev pub TellsIdle : List Event → Command → Reply → Type 0
TellsIdle log (C.Fetch id) (R.Fetched None) = is_due log id ≡ false
TellsIdle log (C.Fetch id) (R.Refused F.NoCrash) = is_due log id ≡ false
TellsIdle log (C.Finish processed) (R.Finished changed) = changed ≡ false → is_due log processed.crash.id ≡ false
TellsIdle log _ _ = ⊤

-- What a turn adds is what the command adds under its reply, with some changes in doubt before it and after it. The receipt
-- tells of the log after the turn.
pub record Answers (basis : Basis) (log : List Change) (command : Command) (receipt : Receipt) (log' : List Change) : Type 0 where
  pub piece : List Change
  pub behind : log' ≡ log ++ piece
  pub doubt : List Event
  pub left : List Event
  pub of_journal : AllByRecursion (λ event. counts event ≡ true) doubt
  pub grows : Grows basis (events_in log) doubt command receipt.reply (events_in piece) left
  pub kind : IsReplyTo command receipt.reply
  pub idle : TellsIdle (events_in log) command receipt.reply
  pub front : receipt.front ≡ length log'
  pub short : length log' < 2 ^ 60
  pub stopped : receipt.stopped ≡ has_stop (events_in log')
  pub altered : IsAltered receipt.reply → basis.is_told ≡ false
  pub fetched : IsTrue basis.is_told → FetchesText log command receipt.reply

-- each answer of a shared desk is one
abbrev pub TellsAnswers : {A B : Type 0} → (A → Command) → (B → Basis) → (B → List Change → A → Receipt → List Change → Type 0) → Type 0
TellsAnswers {A} {B} command_of desk_of answers = (basis : B) (log : List Change) (prepared : A) (receipt : Receipt) (after : List Change)
    → answers basis log prepared receipt after → ∥ Answers (desk_of basis) log (command_of prepared) receipt after ∥₁
