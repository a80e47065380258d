use Rattle.soc_ledger.proofs.Tables.{table-none}
use Rattle.soc_ledger.proofs.crashes.Crashes.new.Goals as goal

pub invariant_of-result : goal.invariant_of-result
invariant_of-result c = table-none c.new.result.items c.new-2.result.items c.new.ensures.items c.new-2.ensures.items
