use Rattle.soc_base.proofs.Places.{rising_from_none}
use Rattle.soc_base.proofs.sorted.Sorted.new.Goals as goal

pub invariant_of-result : goal.invariant_of-result
invariant_of-result g c = rising_from_none (λ e. e.name) (λ e. e.value) c.new.result.items c.new.ensures.items
