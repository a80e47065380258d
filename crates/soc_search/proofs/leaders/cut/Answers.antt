use Rattle.std.proofs.Common.{◌∙◌, ap, map, take}
use Rattle.soc_search.specs.inner.Selections.{as_term}
use Rattle.soc_search.proofs.HitLemmas.{map_take}
use Rattle.soc_search.proofs.leaders.cut.Goals as goal

pub returns-clause-ok : goal.returns-clause-ok
returns-clause-ok c =
    ap (map as_term) c.truncate.ensures.items ∙ map_take as_term c.args.size c.sort_by_count.new.counted.items ∙ ap (take c.args.size) c.in_ok-sort_by_count.ensures.ok
