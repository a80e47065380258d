use Rattle.std.proofs.Common.{◌-◌, arith, drop}
use Rattle.soc_store.proofs.KeyLemmas.{key_fits, key_step}
use Rattle.soc_store.proofs.key.packed.Goals as goal

pub overflow_mul-key : goal.overflow_mul-key
overflow_mul-key c = let few = key_fits c.args.bytes.now (drop c.loop-i.i c.args.bytes.now) (7 - c.loop-i.i) c.loop-i.key c.loop-i.invariant in omega arith

pub overflow_add-key : goal.overflow_add-key
overflow_add-key c = let few = key_fits c.args.bytes.now (drop c.loop-i.i c.args.bytes.now) (7 - c.loop-i.i) c.loop-i.key c.loop-i.invariant in omega (arith, c.from.ensures)

pub loop-i-preserved : goal.loop-i-preserved
loop-i-preserved c = key_step c.args.bytes.now c.loop-i.i c.loop-i.key c.byte_at.result c.from.result c.loop-i.invariant (omega arith) c.from.ensures c.byte_at.ensures (omega arith)
