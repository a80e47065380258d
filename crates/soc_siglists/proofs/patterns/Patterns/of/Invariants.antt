use Rattle.std.proofs.Common.{◌≡◌}
use Rattle.std.specs.Map.{keys_of}
use Rattle.soc_siglists.specs.inner.Literals.{AreSplit}
use Rattle.soc_siglists.proofs.patterns.Patterns.of.Given as goal

-- the texts of the patterns that were gone through, which are split
abbrev pub invariant-loop-pattern : goal.invariant-loop-pattern
invariant-loop-pattern l = record {
  texts : l.texts.items ≡ l.yielded;
  split : AreSplit l.texts.items (keys_of l.sorted) l.others.items;
}
