use Rattle.std.proofs.Common.{◌∙◌, ap, cond, ◌-◌}
use Rattle.soc_search.proofs.WalkLemmas.{value_group}
use Rattle.soc_search.proofs.walk.nth_places.Goals as goal

pub returns : goal.returns
returns c =
    let sort = c.args.sort in
    c.term_near.ensures.places
    ∙ value_group sort c.args.store.now c.args.i c.walk_index-index.result c.term_near.result.0.now c.requires
    (c.walk_index-index.ensures.value ∙ ap (λ n. cond sort.falling (n - 1 - c.args.i) c.args.i) c.values.ensures.count) c.term_near.ensures.value
