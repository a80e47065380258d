use Rattle.std.proofs.Common.{◌≡◌, ℕ, ◌<◌, false, List, get_or}
use Rattle.soc_siglists.specs.Lists.{matches_one}
use Rattle.soc_siglists.proofs.matchers.first_match.Given as goal

-- the matchers are what they were, and none matched one of the frames that were passed
abbrev pub invariant-loop-place : goal.invariant-loop-place
invariant-loop-place l = record {
  same : l.matchers ≡ l.fn.matchers;
  none : (k : ℕ) (d : List ℕ) → k < l.place → matches_one l.fn.matchers (get_or l.frames k d) ≡ false;
}
