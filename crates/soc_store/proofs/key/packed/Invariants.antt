use Rattle.std.proofs.Common.{◌≡◌, ◌-◌, drop}
use Rattle.soc_store.specs.inner.Keys.{packed}
use Rattle.soc_store.proofs.key.packed.Given as goal

abbrev pub invariant-loop-i : goal.invariant-loop-i
invariant-loop-i l = packed l.key (7 - l.i) (drop l.i l.bytes) ≡ packed 0 7 l.bytes
