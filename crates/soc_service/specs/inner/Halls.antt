-- What a desk in a hall has added never falls, and is short: its log is.
use Rattle.std.specs.Prelude.{ℕ, ◌^◌, ◌<◌, ◌≤◌, length, Option, None, Some, IsSomeAnd}
use Rattle.std.specs.Coded.{le_prop}
use Rattle.std.proofs.Common.{arith}
use Rattle.std.proofs.Math.Logic.{∥∥₁_elim}
use Rattle.soc_hall.specs.Seats.{known_of, seen_of}
use Rattle.soc_desk.specs.declared.desk.Command.{Command}
use Rattle.soc_desk.specs.declared.desk.Receipt.{Receipt}
use Rattle.soc_desk.specs.Basis.{Basis}
use Rattle.soc_service.specs.Answers.{Answers, TellsAnswers}
use Rattle.soc_service.specs.Desks.{TakesTurn}
use Rattle.soc_service.specs.Turns.{SeatOf, Shared}

module _ {T A B S : Type 0} (desk : Shared T A B) (command_of : A → Command) (desk_of : B → Basis) (tells : TellsAnswers command_of desk_of desk.answers) where
  pub counted_grows : (before after : Option (SeatOf S A B)) (kept kept' : ℕ) (command : Command) (receipt : Receipt) (Sits : SeatOf S A B → Type 0)
      → TakesTurn desk command_of before kept command receipt after kept'
      → ∥ IsSomeAnd after (λ t. Sits t × (kept' ≤ length (seen_of (known_of t)))) ∥₁
      → (kept ≤ kept') × (kept' < 2 ^ 60)
  counted_grows None after kept kept' command receipt Sits takes sits = absurd takes
  counted_grows (Some s) None kept kept' command receipt Sits takes sits = absurd takes
  counted_grows (Some s) (Some t) kept kept' command receipt Sits takes sits =
      let right = takes.0.asked.right in
      let short : length (seen_of (known_of t)) < 2 ^ 60 = ∥∥₁_elim (tells right.0 _ takes.0.prepared receipt (seen_of (known_of t)) right.2) le_prop (λ (a : Answers (desk_of right.0) _ (command_of takes.0.prepared) receipt (seen_of (known_of t))). a.short) in
      let within : kept' ≤ length (seen_of (known_of t)) = ∥∥₁_elim sits le_prop (λ (h : Sits t × (kept' ≤ length (seen_of (known_of t)))). h.1) in
      (omega (arith, takes.1), omega (arith, short, within))
