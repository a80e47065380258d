use Rattle.std.proofs.Common.{◌≡◌, arith, ap, length, subst, sym, Some}
use Rattle.soc_ledger.specs.Legal.{IsLegalNext}
use Rattle.soc_ledger.specs.State.{LedgerState, id_of}
use Rattle.soc_ledger.specs.inner.Tables.{about, ids_in}
use Rattle.soc_ledger.proofs.Whole.{goes_last, id_there, tells-changed}
use Rattle.soc_ledger.proofs.ledger.Ledger.change.Goals as goal

pub follow-requires-clause-later : goal.follow-requires-clause-later
follow-requires-clause-later c since before after =
    goes_last c.self.invariant.tells c.args.event c.len.result since c.get.result.now.standing c.after-after.result c.len.ensures.count c.after-after.ensures before after

pub invariant_of-self : goal.invariant_of-self
invariant_of-self c =
    let old = c.self.invariant in
    let ledger : LedgerState = record { log = c.self.inside.log.events; crashes = c.self.inside.crashes.filed; room = c.self.inside.room } in record {
      tells =
          tells-changed old.tells c.args.event (id_of ledger c.args.number) c.args.number c.len.result c.get.result.now.standing c.after-after.result _ _ _ _
          (subst (λ t. about c.args.event ≡ Some (id_of t c.args.number)) (sym c.self.view_is) c.requires.of) c.requires.no_acceptance
          (subst (λ t. IsLegalNext t.log c.args.event) (sym c.self.view_is) c.requires.legal)
          (id_there ledger c.args.number c.get.result.now.filed c.get.ensures.filed) c.get.ensures.standing
          c.len.ensures.count c.after-after.ensures
          c.push.ensures.events (ap ids_in c.set_standing.ensures.filed) c.set_standing.ensures.standings c.follow.ensures.due;
      few = omega (arith, old.few, ap length c.set_standing.ensures.filed);
      log_room = omega (arith, c.push.ensures.room, old.log_room);
      crash_room = omega (arith, c.set_standing.ensures.room, old.crash_room);
      due_room = omega (arith, c.follow.ensures.room, old.due_room);
    }
