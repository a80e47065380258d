use Rattle.std.proofs.Common.{◌≡◌, filter, take}
use Rattle.soc_schema.specs.Values.{values_of}
use Rattle.soc_search.specs.inner.Selections.{selected}
use Rattle.soc_search.proofs.FacetLemmas.{terms_so_far}
use Rattle.soc_search.proofs.LeaderLemmas.{leading}
use Rattle.soc_search.proofs.facet.leading_values.Given as goal

abbrev pub invariant-loop-i : goal.invariant-loop-i
invariant-loop-i l =
    l.leaders ≡ leading l.size (terms_so_far l.field (filter (λ s. selected l.set s.0) l.store) (take l.i (values_of l.field l.store)))
