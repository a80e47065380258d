use Rattle.std.proofs.Common.{◌≡◌, drop}
use Rattle.soc_tops.specs.Asked.{nothing_given, with_pairs}
use Rattle.soc_tops.proofs.given.Given.read.Given as goal

-- the parameters so far with the pairs that are left
abbrev pub invariant-loop-i : goal.invariant-loop-i
invariant-loop-i l = with_pairs l.given (drop l.i l.pairs) ≡ with_pairs nothing_given l.pairs
