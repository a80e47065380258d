use Rattle.std.proofs.Common.{◌<◌, ◌≡◌, length, subst, Some}
use Rattle.std.specs.Prelude.{slice_get}
use Rattle.soc_ledger.specs.Due.{due_ids}
use Rattle.soc_ledger.specs.State.{LedgerState, id_of}
use Rattle.soc_ledger.proofs.Whole.{due_found}
use Rattle.soc_ledger.proofs.ledger.Ledger.due_at.Goals as goal

pub returns-clause-crash : goal.returns-clause-crash
returns-clause-crash c =
    let ledger : LedgerState = record { log = c.self.inside.log.events; crashes = c.self.inside.crashes.filed; room = c.self.inside.room } in
    subst (λ t. c.at.result < length t.crashes) c.self.view_is (due_found ledger c.self.inside.due.due c.args.i c.at.result c.self.invariant.tells.queue c.at.ensures).0

pub returns-clause-due : goal.returns-clause-due
returns-clause-due c =
    let ledger : LedgerState = record { log = c.self.inside.log.events; crashes = c.self.inside.crashes.filed; room = c.self.inside.room } in
    subst (λ t. slice_get (due_ids t.log) c.args.i ≡ Some (id_of t c.at.result)) c.self.view_is (due_found ledger c.self.inside.due.due c.args.i c.at.result c.self.invariant.tells.queue c.at.ensures).1
