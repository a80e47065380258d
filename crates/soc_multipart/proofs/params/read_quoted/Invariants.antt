use Rattle.std.proofs.Common.{length}
use Rattle.soc_multipart.specs.Chains.{Chain}
use Rattle.soc_multipart.specs.Params.{SpellsByte}
use Rattle.soc_multipart.proofs.params.read_quoted.Given as goal

-- the bytes so far are those that the text spells up to the rest
abbrev pub invariant-loop-behind : goal.invariant-loop-behind
invariant-loop-behind l = Chain SpellsByte l.text l.value.items l.rest

abbrev pub decreases-loop-behind : goal.decreases-loop-behind
decreases-loop-behind l = length l.rest
