use Rattle.std.proofs.Common.{arith}
use Rattle.soc_siglists.proofs.PatternLemmas.{optional_on}
use Rattle.soc_siglists.proofs.lead.are_optional.Goals as goal

pub loop-sub-preserved : goal.loop-sub-preserved
loop-sub-preserved c = λ rest.
    c.loop-sub.invariant (optional_on c.args.subs.now c.loop-sub.sub-index c.sub-item.result (omega arith) c.sub-item.is (c.is_optional.ensures c.if-not-is_optional.false) rest)
