use Rattle.std.proofs.Common.{arith, ap, ◌≡◌, length}
use Rattle.soc_ledger.specs.Due.{waiting}
use Rattle.soc_ledger.specs.Events.{accepted_ids}
use Rattle.soc_ledger.specs.inner.Tables.{ids_in}
use Rattle.soc_ledger.proofs.Counts.{due_few}
use Rattle.soc_ledger.proofs.Whole.{id_count, shown_count}
use Rattle.soc_ledger.proofs.ledger.Ledger.due.Goals as goal

pub overflow_cast-result : goal.overflow_cast-result
overflow_cast-result c =
    let tells = c.self.invariant.tells in
    let few = due_few c.self.inside.log.events tells.legal in
    let many : length c.self.inside.due.due ≡ length (waiting c.self.inside.log.events) = shown_count _ _ _ tells.queue in
    let all : length (ids_in c.self.inside.crashes.filed) ≡ length (accepted_ids c.self.inside.log.events) = ap length tells.numbers in
    omega (arith, few, many, all, id_count c.self.inside.crashes.filed, c.self.invariant.few)
