use Rattle.std.proofs.Common.{arith}
use Rattle.soc_raw.proofs.Ids.{one_may_not, all_may}
use Rattle.soc_raw.proofs.crash_id.each_may_stand.Goals as goal

pub returns-then-not-may_stand : goal.returns-then-not-may_stand
returns-then-not-may_stand c = one_may_not c.args.text.now c.loop-place.place c.may_stand.result (omega arith) c.may_stand.ensures c.if-not-may_stand.true

pub returns : goal.returns
returns c = all_may c.args.text.now (λ k inside. c.loop-place.invariant k (omega arith))
