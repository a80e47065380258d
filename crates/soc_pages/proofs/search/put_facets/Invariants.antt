use Rattle.std.proofs.Common.{◌≡◌, ◌++◌, take}
use Rattle.std.specs.List.{flat_map}
use Rattle.soc_pages.specs.Pages.{facet_lines}
use Rattle.soc_pages.proofs.search.put_facets.Given as goal

abbrev pub invariant-loop-facet : goal.invariant-loop-facet
invariant-loop-facet l = l.out.items ≡ l.initial.out.items ++ flat_map facet_lines (take l.facet-index l.facets)
