use Rattle.std.proofs.Common.{[], ◌∙◌, refl, sym}
use Rattle.toml.specs.View.{items_view}
use Rattle.soc_schema.specs.TokenFile.{tokens_from}
use Rattle.soc_schema.proofs.TokenLemmas.{tokens_from-taken}
use Rattle.soc_schema.proofs.token.read_array.Goals as goal

pub loop-value-preserved : goal.loop-value-preserved
loop-value-preserved c =
    let values = c.deref-value-items.result.now in
    tokens_from-taken values c.loop-value.value-index c.value-item.result (tokens_from [] (items_view values)) c.loop-value.tokens c.loop-value.tokens c.push.new.self c.in-Some.token c.loop-value.invariant.0 c.loop-value-test.true c.value-item.is refl (sym c.in-Some.is ∙ c.in_ok-token.ensures) c.in_ok-push-in-Some.ensures
