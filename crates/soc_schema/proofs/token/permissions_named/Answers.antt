use Rattle.std.proofs.Common.{◌∙◌, sym}
use Rattle.soc_schema.specs.Permits.{public_alone}
use Rattle.soc_schema.proofs.TokenLemmas.{with_named-refused, with_named-taken}
use Rattle.soc_schema.proofs.token.permissions_named.Goals as goal

pub returns-in_err-permission : goal.returns-in_err-permission
returns-in_err-permission c =
    c.from_residual.ensures ∙ sym (with_named-refused public_alone c.loop-word.permissions c.args.words.now c.loop-word.word-iterator c.next.new.self c.in-Some.word.now c.loop-word.invariant c.in-Some.ensures.steps c.in_err-permission.ensures)

pub loop-word-preserved : goal.loop-word-preserved
loop-word-preserved c =
    with_named-taken public_alone c.loop-word.permissions c.add.new.self c.args.words.now c.loop-word.word-iterator c.next.new.self c.in-Some.word.now c.in_ok-permission.permission c.loop-word.invariant c.in-Some.ensures.steps c.in_ok-permission.ensures c.add.ensures.value
