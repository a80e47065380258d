use Rattle.std.proofs.Common.{rules}
use Rattle.soc_schema.proofs.OrderLemmas.{value_total, value_exact}
use Rattle.soc_store.proofs.order.compare_values.Goals as goal

pub returns-in-Text-b-clause-total : goal.returns-in-Text-b-clause-total
returns-in-Text-b-clause-total c = value_total

pub returns-in-Text-b-clause-exact : goal.returns-in-Text-b-clause-exact
returns-in-Text-b-clause-exact c = value_exact

pub returns-in-Text-b-2-clause-total : goal.returns-in-Text-b-2-clause-total
returns-in-Text-b-2-clause-total c = value_total

pub returns-in-Text-b-2-clause-exact : goal.returns-in-Text-b-2-clause-exact
returns-in-Text-b-2-clause-exact c = value_exact

pub returns-in-Number-b-clause-total : goal.returns-in-Number-b-clause-total
returns-in-Number-b-clause-total c = value_total

pub returns-in-Number-b-clause-exact : goal.returns-in-Number-b-clause-exact
returns-in-Number-b-clause-exact c = value_exact

pub returns-in-Flag-b-clause-total : goal.returns-in-Flag-b-clause-total
returns-in-Flag-b-clause-total c = value_total

pub returns-in-Flag-b-clause-exact : goal.returns-in-Flag-b-clause-exact
returns-in-Flag-b-clause-exact c = value_exact

pub returns-in-Flag-b-2-clause-total : goal.returns-in-Flag-b-2-clause-total
returns-in-Flag-b-2-clause-total c = value_total

pub returns-in-Flag-b-2-clause-exact : goal.returns-in-Flag-b-2-clause-exact
returns-in-Flag-b-2-clause-exact c = value_exact

pub returns-in_default : goal.returns-in_default
returns-in_default c = record { value = search rules; total = value_total; exact = value_exact }

pub returns-in_default-b : goal.returns-in_default-b
returns-in_default-b c = record { value = search rules; total = value_total; exact = value_exact }
