use Rattle.std.proofs.Common.{◌≡◌, false, take}
use Rattle.soc_siglists.specs.Lists.{matches_one}
use Rattle.soc_siglists.proofs.matchers.matches_one.Given as goal

-- the matchers are what they were, and none of those that were asked matches
abbrev pub invariant-loop-matcher : goal.invariant-loop-matcher
invariant-loop-matcher l = record {
  same : l.matchers ≡ l.fn.matchers;
  none : matches_one (take l.matcher-index l.fn.matchers) l.frame ≡ false;
}
