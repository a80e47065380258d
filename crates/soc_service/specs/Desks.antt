-- What a desk in a hall does with its seat and its pass.
use Rattle.std.specs.Prelude.{◌≡◌, ℕ, ◌+◌, List, ◌++◌, Option, None, Some, IsSomeAnd}
use Rattle.soc_hall.specs.declared.view.Turn.{Turn as HallTurn}
use Rattle.soc_hall.specs.Log.{pieces}
use Rattle.soc_hall.specs.Seats.{known_of}
use Rattle.soc_pool.specs.declared.pass.Pass.{Pass}
use Rattle.soc_pool.specs.Passes.{PutsOrWaits, empties_of}
use Rattle.soc_desk.specs.declared.desk.Command.{Command}
use Rattle.soc_desk.specs.declared.desk.Receipt.{Receipt}
use Rattle.soc_service.specs.declared.change.Change.{Change}
use Rattle.soc_service.specs.Changes.{events_in, kept_in}
use Rattle.soc_service.specs.Turns.{Knows, SeatOf, Shared, Turn}

-- nothing was put, or the job of this crash, once
abbrev pub PutsJob : Option (List ℕ) → Pass → Pass → Type 0
PutsJob None before after = after ≡ before
PutsJob (Some id) before after = PutsOrWaits id before after × (empties_of after ≡ empties_of before)

module _ {T A B S : Type 0} (desk : Shared T A B) (command_of : A → Command) where
  -- The seat made one turn of the command. What the turn's piece keeps is counted.
  abbrev pub TakesTurn : Option (SeatOf S A B) → ℕ → Command → Receipt → Option (SeatOf S A B) → ℕ → Type 0
  TakesTurn before kept command receipt after kept' = IsSomeAnd before (λ s. IsSomeAnd after (λ t.
      (turn : Turn desk command_of (known_of s) command receipt (known_of t)) × (kept' ≡ kept + kept_in (events_in turn.asked.piece))))

-- the seat has had more turns, whose pieces keep so many changes and stops
pub record HasTurned {A B : Type 0} (before after : Knows A B) (kept : ℕ) : Type 0 where
  pub number : after.number ≡ before.number
  pub basis : after.basis ≡ before.basis
  pub opening : after.opening ≡ before.opening
  pub more : List (HallTurn Change A Receipt)
  pub turns : after.turns ≡ before.turns ++ more
  pub kept_are : kept_in (events_in (pieces more)) ≡ kept
