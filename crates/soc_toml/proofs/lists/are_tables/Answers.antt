use Rattle.std.proofs.Common.{◌&&◌, sym, ap, ◌∙◌, drop, ◌+◌}
use Rattle.toml.specs.View.{items_view}
use Rattle.soc_toml.specs.Lists.{all_tables}
use Rattle.soc_toml.proofs.Arrays.{all_tables-here, items-end}
use Rattle.soc_toml.proofs.lists.are_tables.Goals as goal

pub returns-then-not-is_table : goal.returns-then-not-is_table
returns-then-not-is_table c =
    let values = c.deref-value-items.result.now in
    let here = all_tables-here values c.loop-value.value-index c.value-item.result _ c.loop-value-test.true c.value-item.is c.is_table.ensures in
    sym (ap (λ vs. all_tables (items_view vs)) (sym c.deref-value-items.ensures.value) ∙ c.loop-value.invariant ∙ here ∙ ap (λ b. b && all_tables (items_view (drop (c.loop-value.value-index + 1) values))) c.if-not-is_table.true)

pub loop-value-preserved : goal.loop-value-preserved
loop-value-preserved c =
    let values = c.deref-value-items.result.now in
    let here = all_tables-here values c.loop-value.value-index c.value-item.result _ c.loop-value-test.true c.value-item.is c.is_table.ensures in
    c.loop-value.invariant ∙ here ∙ ap (λ b. b && all_tables (items_view (drop (c.loop-value.value-index + 1) values))) c.if-not-is_table.false

pub returns : goal.returns
returns c =
    sym (ap (λ vs. all_tables (items_view vs)) (sym c.deref-value-items.ensures.value) ∙ c.loop-value.invariant ∙ ap all_tables (items-end c.deref-value-items.result.now c.loop-value.value-index c.loop-value-test.false))
