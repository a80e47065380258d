use Rattle.std.proofs.Common.{[], vec_capacity, arith}
use Rattle.soc_edge.specs.inner.DiskEntries.{log_of}
use Rattle.soc_edge.specs.DiskLog.{stopped}
use Rattle.soc_edge.proofs.DiskStop.{Playing-write, Playing-sync}
use Rattle.soc_edge.proofs.memory.stop.play.Goals as goal

pub loop-rest-preserved-in-Write : goal.loop-rest-preserved-in-Write
loop-rest-preserved-in-Write c = (
  Playing-write (stopped c.args.image.now.items (log_of [] c.args.log.now c.args.written.now) c.args.first_choice) (vec_capacity c.args.image.now)
      c.loop-rest.image.items c.play_write-choice.new.image.items c.loop-rest.rest.now c.loop-rest.bytes.now
      c.in-Write.place c.in-Write.count c.loop-rest.choice c.play_write-choice.result c.loop-rest.syncs
      c.loop-rest.invariant.0 c.in-Write.is c.in-len1-up.len_at_least c.play_write-choice.ensures.image c.play_write-choice.ensures.choice,
  omega (arith, c.loop-rest.invariant.1, c.play_write-choice.ensures.room),
)

pub loop-rest-preserved : goal.loop-rest-preserved
loop-rest-preserved c = (
  Playing-sync (stopped c.args.image.now.items (log_of [] c.args.log.now c.args.written.now) c.args.first_choice) (vec_capacity c.args.image.now)
      c.loop-rest.image.items c.loop-rest.rest.now c.loop-rest.bytes.now c.loop-rest.choice c.loop-rest.syncs
      c.loop-rest.invariant.0 c.in-Sync.is c.in-len1-up.len_at_least,
  c.loop-rest.invariant.1,
)
