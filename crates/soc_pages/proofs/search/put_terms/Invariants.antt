use Rattle.std.proofs.Common.{◌≡◌, ◌++◌, take}
use Rattle.std.specs.List.{flat_map}
use Rattle.soc_pages.specs.Pages.{term_item}
use Rattle.soc_pages.proofs.search.put_terms.Given as goal

abbrev pub invariant-loop-term : goal.invariant-loop-term
invariant-loop-term l = l.out.items ≡ l.initial.out.items ++ flat_map term_item (take l.term-index l.terms)
