use Rattle.std.proofs.Common.{◌∙◌, ap, sym, map, take, drop}
use Rattle.std.proofs.lemmas.List.{take_all}
use Rattle.soc_query.specs.Answers.{columns_of}
use Rattle.soc_search.proofs.HitLemmas.{mapped_more, map_twice}
use Rattle.soc_search.proofs.hits.copied.Goals as goal

pub loop-row-preserved : goal.loop-row-preserved
loop-row-preserved c =
    mapped_more (λ row. columns_of c.args.query.now.columns row.now) c.part_of-row-items.result.now c.loop-row.hits c.push.new.self c.loop-row.row-index c.row-item.result c.in_ok-columns_of.field-0 c.loop-row-test.true (sym c.row-item.is) (c.in_ok-columns_of.ensures ∙ ap (λ cs. columns_of cs c.row-item.result.now) c.columns.ensures) c.loop-row.invariant c.in_ok-push.ensures.ok

pub returns : goal.returns
returns c =
    let shown = columns_of c.args.query.now.columns in
    c.loop-row.invariant ∙ ap (map (λ row. shown row.now)) (take_all c.loop-row.row-index c.part_of-row-items.result.now c.loop-row-test.false)
    ∙ map_twice shown (λ row. row.now) c.part_of-row-items.result.now
    ∙ ap (map shown) (c.part_of-row-items.ensures ∙ ap (λ n. take c.args.wanted (drop n (map (λ row. row.now) c.args.rows.now))) c.offset.ensures)
