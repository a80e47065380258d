use Rattle.std.proofs.Common.{arith}
use Rattle.soc_journal.proofs.Fronts.{front_opens}
use Rattle.soc_journal.proofs.gate.front_of.Goals as goal

pub returns-in-len5-up : goal.returns-in-len5-up
returns-in-len5-up c = (c.from_le_bytes.type_inv, front_opens c.args.bytes.now _ c.if-gate-ne-OPEN_GATE.false (λ i. omega (arith, c.type_inv.bytes i)) c.in-len5-up.len_at_least c.from_le_bytes.ensures)
