use Rattle.std.proofs.Common.{◌<◌, ◌≡◌, false, length, subst}
use Rattle.std.specs.Prelude.{IsTrue, MatchOption}
use Rattle.soc_ledger.specs.Events.{was_accepted}
use Rattle.soc_ledger.specs.State.{LedgerState, id_of}
use Rattle.soc_ledger.proofs.Whole.{number_matches}
use Rattle.soc_ledger.proofs.ledger.Ledger.number_of.Goals as goal

pub returns : goal.returns
returns c =
    let ledger : LedgerState = record { log = c.self.inside.log.events; crashes = c.self.inside.crashes.filed; room = c.self.inside.room } in
    subst (λ t. MatchOption c.number_of.result (was_accepted t.log c.args.id ≡ false) (λ number. IsTrue (was_accepted t.log c.args.id) × (number < length t.crashes) × (id_of t number ≡ c.args.id))) c.self.view_is
    (number_matches ledger c.args.id c.number_of.result c.self.invariant.tells.numbers c.number_of.ensures)
