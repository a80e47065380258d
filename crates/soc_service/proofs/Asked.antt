-- Turns of a shared desk, from what its hall asked.
use Rattle.std.proofs.Common.{◌≡◌, ℕ, List, Option, None, Some, IsSomeAnd, sym, ◌∙◌, ap, subst}
use Rattle.soc_raw.specs.Record.{Crash}
use Rattle.soc_schema.specs.declared.value.Cell.{Cell}
use Rattle.soc_schema.specs.Reports.{Report}
use Rattle.soc_hall.specs.declared.hall.HallReceipt.{HallReceipt}
use Rattle.soc_hall.specs.Asked.{Asks}
use Rattle.soc_pool.specs.declared.pass.Pass.{Pass}
use Rattle.soc_desk.specs.declared.desk.Command.{Command}
use Rattle.soc_desk.specs.declared.desk.Receipt.{Receipt}
use Rattle.soc_desk.specs.Kinds.{IsReplyTo}
use Rattle.soc_service.specs.Desks.{PutsJob, TakesTurn}
use Rattle.soc_service.specs.Turns.{Knows, SeatOf, Shared, Turn}

-- a row that an equal reporter made
pub row_is : (rows own : Crash → List Cell) (processed : Report) (crash : Crash) → processed ≡ record { crash = crash; row = own crash } → rows ≡ own → processed.row ≡ rows processed.crash
row_is rows own processed crash is same =
    ap (λ p. p.row) is ∙ (ap (λ r. r crash) (sym same) ∙ ap rows (sym (ap (λ p. p.crash) is)))

module _ {T A B : Type 0} (desk : Shared T A B) (command_of : A → Command) where
  -- what was prepared of a command was asked in one turn
  abbrev pub AsksPrepared : Knows A B → Command → HallReceipt Receipt → Knows A B → Type 0
  AsksPrepared v command receipt w = (prepared : A) × (command_of prepared ≡ command) × Asks desk.log_of desk.basis_of desk.asks desk.answers v prepared receipt w

  abbrev pub turn_of : {v : Knows A B} {command : Command} {receipt : HallReceipt Receipt} {w : Knows A B} → AsksPrepared v command receipt w → Turn desk command_of v command receipt.reply w
  turn_of {v} {command} {receipt} (prepared, is, asked) = record { start = receipt.start; front = receipt.front; prepared = prepared; of_command = is; asked = asked }

  -- a turn gets a reply of its command's kind
  pub of_kind : ((x : T) (prepared : A) (receipt : Receipt) (y : T) → desk.asks x prepared receipt y → IsReplyTo (command_of prepared) receipt.reply)
      → {S : Type 0} (before : Option (SeatOf S A B)) (kept : ℕ) (command : Command) (receipt : Receipt) (after : Option (SeatOf S A B)) (kept' : ℕ)
      → TakesTurn desk command_of before kept command receipt after kept' → IsReplyTo command receipt.reply
  of_kind replies None kept command receipt after kept' takes = absurd takes
  of_kind replies (Some s) kept command receipt None kept' takes = absurd takes
  of_kind replies (Some s) kept command receipt (Some t) kept' takes =
      subst (λ c. IsReplyTo c receipt.reply) takes.0.of_command (replies _ takes.0.prepared receipt _ takes.0.asked.stepped)

  -- a turn of a seat and a count that stay as they are then
  pub takes_on : {S : Type 0} (before : Option (SeatOf S A B)) (kept : ℕ) (command : Command) (receipt : Receipt) (after after' : Option (SeatOf S A B)) (kept' kept'' : ℕ)
      → after' ≡ after → kept'' ≡ kept' → TakesTurn desk command_of before kept command receipt after kept' → TakesTurn desk command_of before kept command receipt after' kept''
  takes_on before kept command receipt after after' kept' kept'' same same_kept takes =
      subst (λ a. TakesTurn desk command_of before kept command receipt a kept'') (sym same)
      (subst (λ n. TakesTurn desk command_of before kept command receipt after n) (sym same_kept) takes)

-- a put of the pass that was there before
pub puts_on : (pass pass' after : Option Pass) (due due' : Option (List ℕ)) → pass' ≡ pass → due ≡ due' → IsSomeAnd pass' (λ p. IsSomeAnd after (λ q. PutsJob due p q)) → IsSomeAnd pass (λ p. IsSomeAnd after (λ q. PutsJob due' p q))
puts_on pass pass' after due due' same same_due puts =
    subst (λ o. IsSomeAnd o (λ p. IsSomeAnd after (λ q. PutsJob due' p q))) same
    (subst (λ d. IsSomeAnd pass' (λ p. IsSomeAnd after (λ q. PutsJob d p q))) same_due puts)
