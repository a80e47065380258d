use Rattle.std.proofs.Common.{◌∙◌}
use Rattle.std.specs.Option.{option_copied}
use Rattle.soc_store.proofs.CountLemmas.{counted_found, counted_gap}
use Rattle.soc_store.proofs.counts.count_one.Goals as goal

pub returns-in_ok-insert-in-Err : goal.returns-in_ok-insert-in-Err
returns-in_ok-insert-in-Err c =
    c.in_ok-insert-in-Err.ensures.items
    ∙ counted_gap c.as_slice.result.now c.args.counts.now.items (option_copied c.args.product) c.in_ok-product-in-Err.product c.in-Err.i c.as_slice.ensures.value c.in-Err.ensures c.in_ok-product-in-Err.ensures

pub returns-in-Some : goal.returns-in-Some
returns-in-Some c =
    counted_found c.as_slice.result.now c.args.counts.now.items (option_copied c.args.product) c.in-Ok.i c.index.result.now c.index_mut.result.now c.in-Some.more c.as_slice.ensures.value c.requires c.in-Ok.ensures c.index.ensures c.index_mut.ensures.value c.in-Some.ensures.1
