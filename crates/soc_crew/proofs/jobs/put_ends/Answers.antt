use Rattle.std.proofs.Common.{◌<◌, arith}
use Rattle.soc_crew.proofs.Passes.{end_put, ends_more, ends_none}
use Rattle.soc_crew.proofs.jobs.put_ends.Goals as goal

pub loop-init : goal.loop-init
loop-init g c = (c.requires, ends_none _ _)

pub loop-preserved : goal.loop-preserved
loop-preserved g c =
    let some : 0 < c.loop.left = omega (arith, c.if-left-eq0.false) in
    (c.put_over-after.ensures.pass, ends_more _ _ _ _ _ _ c.loop.invariant.1 (end_put _ _ _ _ c.put_over-after.result.1 some c.left_after-left.ensures c.put_over-after.ensures.put))
