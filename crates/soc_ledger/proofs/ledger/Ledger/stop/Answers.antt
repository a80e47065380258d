use Rattle.std.proofs.Common.{arith, ap, subst, sym, ◌∙◌}
use Rattle.soc_ledger.specs.Events.{has_stop}
use Rattle.soc_ledger.specs.inner.Tables.{Tells, ids_in}
use Rattle.soc_ledger.proofs.Whole.{tells-stop}
use Rattle.soc_ledger.proofs.ledger.Ledger.stop.Goals as goal

pub invariant_of-self : goal.invariant_of-self
invariant_of-self c =
    let old = c.self.invariant in record {
      tells =
          subst (λ l. Tells l (ids_in c.self.inside.crashes.filed) c.self.inside.crashes.standings c.self.inside.due.due) (sym c.push.ensures.events)
          (tells-stop _ _ _ _ old.tells (ap (λ t. has_stop t.log) c.self.view_is ∙ c.requires.goes_on));
      few = old.few;
      log_room = omega (arith, c.push.ensures.room, old.log_room);
      crash_room = omega (arith, old.crash_room);
      due_room = omega (arith, old.due_room);
    }
