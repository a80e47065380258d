use Rattle.std.proofs.Common.{◌∙◌}
use Rattle.soc_made.proofs.MakeLemmas.{Writes-one, WritesFront-one}
use Rattle.soc_made.proofs.made.make.Goals as goal

pub loop-k-preserved : goal.loop-k-preserved
loop-k-preserved g c =
    Writes-one _ _ _ c.args.seed c.loop-k.k c.as_slice.result.now (c.as_slice.ensures ∙ c.in-Ok.ensures) c.loop-k.invariant c.in-Ok-write_all.ensures.whole

pub returns-in_default-write_all-clause-makes : goal.returns-in_default-write_all-clause-makes
returns-in_default-write_all-clause-makes g c =
    WritesFront-one _ _ _ c.args.seed c.loop-k.k c.args.count c.as_slice.result.now (c.as_slice.ensures ∙ c.in-Ok.ensures) c.loop-k-test.true c.loop-k.invariant
    c.in_default-write_all.ensures.front
