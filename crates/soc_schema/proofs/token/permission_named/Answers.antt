use Rattle.soc_schema.proofs.TokenLemmas.{named-passed}
use Rattle.soc_schema.proofs.token.permission_named.Goals as goal

pub loop-permission-preserved : goal.loop-permission-preserved
loop-permission-preserved c =
    named-passed c.args.word.now c.name.result.now c.loop-permission.permission-index _ c.loop-permission-test.true c.name.ensures.text c.if-eq.ensures c.loop-permission.invariant
