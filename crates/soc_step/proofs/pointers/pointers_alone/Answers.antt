use Rattle.std.proofs.Common.{refl, arith}
use Rattle.soc_step.proofs.FillLemmas.{fills-none, fills-more, fills-all}
use Rattle.soc_step.proofs.pointers.pointers_alone.Goals as goal

pub loop-place-init : goal.loop-place-init
loop-place-init c = fills-none _ _ refl

pub loop-place-preserved : goal.loop-place-preserved
loop-place-preserved c = fills-more _ _ _ _ (omega arith) c.loop-place.invariant c.pointer_at.ensures

pub returns : goal.returns
returns c = fills-all _ _ _ (omega arith) c.loop-place.invariant
