use Rattle.std.proofs.Common.{inr, refl, sym, ◌∙◌}
use Rattle.soc_vault.specs.Openings.{entry_of}
use Rattle.soc_book.proofs.Recoveries.{on_ok, step_taken, step_refused}
use Rattle.soc_book.proofs.opening.RecoveryRecover.recover.Goals as goal

pub returns-in-Ok-clause-given : goal.returns-in-Ok-clause-given
returns-in-Ok-clause-given c = λ start entries at had.
    step_taken c.args.self.now.own c.args.self.now.ledger c.reserve.new.self c.args.self.now.store start entries
    (on_ok c.reserve.result (sym c.is_err.ensures.value ∙ c.if-is_err.false) c.reserve.ensures.ok) had
    c.take.new.self.own c.take.new.self.ledger c.take.new.self.store (entry_of c.args.found) c.args.found.place c.in-Ok.ensures.own at c.requires.within c.in-Ok.ensures.ok

pub returns-in-Err-BadRecord-clause-refused : goal.returns-in-Err-BadRecord-clause-refused
returns-in-Err-BadRecord-clause-refused c =
    let none = rw c.in-Err-BadRecord.field-0-is at c.in-Err-BadRecord.ensures.bad in
    inr (
      refl,
      λ start entries at had basis.
          step_refused c.args.self.now.own c.args.self.now.ledger c.reserve.new.self c.args.self.now.store start entries
          (on_ok c.reserve.result (sym c.is_err.ensures.value ∙ c.if-is_err.false) c.reserve.ensures.ok) had (entry_of c.args.found) none basis,
    )
