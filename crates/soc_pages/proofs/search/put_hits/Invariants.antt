use Rattle.std.proofs.Common.{◌≡◌, ◌++◌, take}
use Rattle.std.specs.List.{flat_map}
use Rattle.soc_pages.specs.Pages.{hit_row}
use Rattle.soc_pages.proofs.search.put_hits.Given as goal

abbrev pub invariant-loop-hit : goal.invariant-loop-hit
invariant-loop-hit l = l.out.items ≡ l.initial.out.items ++ flat_map (hit_row l.columns) (take l.hit-index l.hits)
