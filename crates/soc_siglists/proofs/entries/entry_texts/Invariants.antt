use Rattle.std.proofs.Common.{length, map}
use Rattle.soc_siglists.proofs.FileLemmas.{TextsSoFar}
use Rattle.soc_siglists.proofs.entries.entry_texts.Given as goal

abbrev pub invariant-loop-rest : goal.invariant-loop-rest
invariant-loop-rest l = TextsSoFar l.fn.bytes (map (λ t. t.now) l.texts.items) l.rest

abbrev pub decreases-loop-rest : goal.decreases-loop-rest
decreases-loop-rest l = length l.rest
