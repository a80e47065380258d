use Rattle.std.proofs.Common.{◌≡◌, ◌++◌, take}
use Rattle.std.specs.List.{flat_map}
use Rattle.soc_pages.specs.Pages.{top_row}
use Rattle.soc_pages.proofs.tops.put_tops.Given as goal

abbrev pub invariant-loop-top : goal.invariant-loop-top
invariant-loop-top l = l.out.items ≡ l.initial.out.items ++ flat_map top_row (take l.top-index l.tops)
