use Rattle.soc_session.proofs.LineLemmas.{caller-of}
use Rattle.soc_session.proofs.lines.asker.Goals as goal

pub returns : goal.returns
returns c =
    caller-of c.args.rules.now.tokens c.args.rules.now.public _ _ c.caller.result c.first_named-key.ensures c.if-is_repeated.ensures c.caller.ensures
