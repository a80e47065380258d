use Rattle.std.proofs.Common.{arith}
use Rattle.soc_walk.proofs.WalkLemmas.{pushed-on, pushed-last, all-pushed}
use Rattle.soc_walk.proofs.process.Process.walk.Goals as goal

pub returns-in_default : goal.returns-in_default
returns-in_default c =
    rw c.in_ok-push.ensures.items (pushed-last c.args.self.now c.loop.first c.loop.here _ c.loop.frames.items c.frame_of.result c.loop.counter (omega arith) c.loop.invariant c.frame_of.ensures c.in_default.ensures)

pub loop-preserved : goal.loop-preserved
loop-preserved c =
    rw c.in_ok-push.ensures.items (pushed-on c.args.self.now c.loop.first c.loop.here _ c.loop.frames.items c.frame_of.result c.loop.counter c.in-Some.caller (omega arith) c.loop.invariant c.frame_of.ensures c.in-Some.ensures)

pub returns : goal.returns
returns c = all-pushed c.args.self.now c.loop.first c.loop.here _ c.loop.frames.items c.loop.counter (omega arith) c.loop.invariant
