use Rattle.std.proofs.Common.{sym, ap, ◌∙◌}
use Rattle.toml.specs.View.{items_view}
use Rattle.soc_toml.specs.Lists.{texts_among}
use Rattle.soc_toml.proofs.Arrays.{after-begins, after-text, after-other, after-end}
use Rattle.soc_toml.proofs.lists.texts_among.Goals as goal

pub loop-value-init : goal.loop-value-init
loop-value-init c = after-begins c.deref-value-items.result.now _ c.new-texts.ensures

pub returns-in-None : goal.returns-in-None
returns-in-None c =
    let values = c.deref-value-items.result.now in
    let here = after-other values c.loop-value.value-index c.value-item.result c.loop-value.texts c.loop-value-test.true c.value-item.is c.in-None.ensures in
    sym (ap (λ vs. texts_among (items_view vs)) (sym c.deref-value-items.ensures.value) ∙ c.loop-value.invariant ∙ here)

pub loop-value-preserved : goal.loop-value-preserved
loop-value-preserved c =
    let values = c.deref-value-items.result.now in
    let here = after-text values c.loop-value.value-index c.value-item.result c.loop-value.texts c.in-Some.text.now _ _ c.loop-value-test.true c.value-item.is c.in-Some.ensures c.in_ok-of-in-Some.ensures c.in_ok-push-in-Some.ensures.ok in
    c.loop-value.invariant ∙ here

pub returns : goal.returns
returns c =
    let values = c.deref-value-items.result.now in
    sym (ap (λ vs. texts_among (items_view vs)) (sym c.deref-value-items.ensures.value) ∙ c.loop-value.invariant ∙ after-end values c.loop-value.value-index c.loop-value.texts c.loop-value-test.false)
