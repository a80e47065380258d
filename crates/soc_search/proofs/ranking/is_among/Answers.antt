use Rattle.std.proofs.Common.{◌∙◌}
use Rattle.std.proofs.lemmas.List.Sorted.{searched}
use Rattle.soc_search.proofs.RowLemmas.{search_is}
use Rattle.soc_search.proofs.ranking.is_among.Goals as goal

pub returns : goal.returns
returns c =
    c.is_ok.ensures.value ∙ search_is c.args.rising.now c.args.place c.binary_search.result (searched c.args.rising.now c.args.place c.binary_search.result c.binary_search.ensures.position (λ i j le h. c.requires i j 0 le h))
