use Rattle.std.proofs.Common.{◌≡◌, map, take}
use Rattle.soc_search.specs.inner.Selections.{as_term}
use Rattle.soc_search.proofs.leaders.terms_of.Given as goal

abbrev pub invariant-loop-one : goal.invariant-loop-one
invariant-loop-one l = l.terms ≡ take l.one-index (map as_term l.kept)
