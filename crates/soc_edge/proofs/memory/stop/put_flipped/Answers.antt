use Rattle.std.proofs.Common.{length, drop}
use Rattle.soc_edge.proofs.DiskStop.{flipped-back}
use Rattle.soc_edge.proofs.memory.stop.put_flipped.Goals as goal

pub returns-then-not-is_empty-clause-written : goal.returns-then-not-is_empty-clause-written
returns-then-not-is_empty-clause-written c =
    flipped-back c.args.image.now.items c.args.piece.now c.deref_mut.result.now c.put.new.bytes.items c.flip_at.new.bytes
    (drop (length c.flip_at.new.bytes) c.put.new.bytes.items) c.args.place c.put.new.bytes.len c.is_empty.result
    c.deref_mut.ensures.value c.deref_mut.ensures.len c.put.ensures.written c.flip_at.ensures c.flip_at.auto.bytes
    c.is_empty.ensures c.if-not-is_empty.true
