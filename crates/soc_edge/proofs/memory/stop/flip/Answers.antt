use Rattle.std.proofs.Common.{◌<◌, length, arith}
use Rattle.soc_edge.specs.DiskLog.{flipped}
use Rattle.soc_edge.proofs.DiskStop.{flipped-step}
use Rattle.soc_edge.proofs.memory.stop.flip.Goals as goal

pub loop-byte-preserved : goal.loop-byte-preserved
loop-byte-preserved c =
    let within : c.loop-byte.byte-index < length c.args.bytes.now = omega (arith, c.loop-byte-test.true, c.loop-byte.auto.bytes) in
    flipped-step flipped c.args.bytes.now c.loop-byte.bytes c.loop-byte.byte-index within c.loop-byte.invariant
