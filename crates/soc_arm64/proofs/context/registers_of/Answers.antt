use Rattle.std.proofs.Common.{◌≡◌, ℕ, ◌≤◌, List, Some, length, refl, ap, arith}
use Rattle.std.proofs.lemmas.Bool.{le-leb}
use Rattle.soc_step.specs.Machine.{Values, values_by}
use Rattle.soc_arm64.specs.Context.{register_at, registers_of}
use Rattle.soc_arm64.proofs.FillLemmas.{fills-none, fills-more, fills-all}
use Rattle.soc_arm64.proofs.context.registers_of.Goals as goal

read : (context : List ℕ) (values : Values) → 912 ≤ length context → values ≡ values_by (λ place. Some (register_at context place)) → Some values ≡ registers_of context
read context values long is = rw (le-leb 912 (length context) long) (ap Some is)

pub loop-place-init : goal.loop-place-init
loop-place-init c = fills-none _ _ refl

pub loop-place-preserved : goal.loop-place-preserved
loop-place-preserved c = fills-more _ _ _ _ (omega arith) c.loop-place.invariant (ap Some c.register_at.ensures)

pub returns : goal.returns
returns c = read c.args.context.now _ (omega arith) (fills-all _ _ _ (omega arith) c.loop-place.invariant)
