use Rattle.std.proofs.Common.{◌≡◌, ◌∙◌, ◌++◌, ◌/◌, sym, subst}
use Rattle.soc_schema.specs.Orders.{value_cmp}
use Rattle.soc_schema.specs.Tables.{Rising}
use Rattle.soc_schema.proofs.OrderLemmas.{value_total}
use Rattle.soc_store.proofs.IndexLemmas.{value}
use Rattle.soc_store.proofs.PartLemmas.{rising_front, rising_back}
use Rattle.soc_store.proofs.PartSteps.{halves}
use Rattle.soc_store.proofs.block.Block.halve.Goals as goal

both : (c : goal.In_ok-slots) → c.self.inside.slots.items ≡ c.split_off.new.self.items ++ c.in_ok-slots.slots.items
both c = halves c.self.inside.slots.items c.split_off.new.self.items c.in_ok-slots.slots.items (c.len-half.result / 2) c.in_ok-slots.ensures.items c.in_ok-slots.ensures.tail

pub invariant_of-result : goal.invariant_of-result
invariant_of-result c = rising_back value value_total c.split_off.new.self.items c.in_ok-slots.slots.items (subst (Rising value value_cmp) (both c) c.self.invariant)

pub invariant_of-self-2 : goal.invariant_of-self-2
invariant_of-self-2 c = rising_front value value_total c.split_off.new.self.items c.in_ok-slots.slots.items (subst (Rising value value_cmp) (both c) c.self.invariant)

pub returns-clause-halves : goal.returns-clause-halves
returns-clause-halves c = sym c.self.view_is ∙ both c
