use Rattle.std.proofs.Common.{◌≡◌, map, take, filter}
use Rattle.soc_query.specs.Answers.{facet_of}
use Rattle.soc_search.specs.inner.Selections.{selected}
use Rattle.soc_search.proofs.facet.facets.Given as goal

abbrev pub invariant-loop-field : goal.invariant-loop-field
invariant-loop-field l =
    l.facets ≡ map (facet_of l.query.facet_size (filter (λ s. selected l.set s.0) l.store)) (take l.field-index l.query.facets)
