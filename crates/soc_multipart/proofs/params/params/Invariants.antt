use Rattle.std.proofs.Common.{length}
use Rattle.soc_multipart.specs.Chains.{Chain}
use Rattle.soc_multipart.specs.Params.{AreDistinct, ReadsParam}
use Rattle.soc_multipart.specs.inner.Views.{param_texts}
use Rattle.soc_multipart.proofs.SeenLemmas.{HasNames}
use Rattle.soc_multipart.proofs.params.params.Given as goal

-- the parameters so far stand in the text up to the rest, no two have one name, and the set has their names
abbrev pub invariant-loop-rest : goal.invariant-loop-rest
invariant-loop-rest l = record {
  in_order : Chain (ReadsParam l.spaced) l.text (param_texts l.found.items) l.rest;
  distinct : AreDistinct (param_texts l.found.items);
  seen : HasNames l.seen.keys (param_texts l.found.items);
}

abbrev pub decreases-loop-rest : goal.decreases-loop-rest
decreases-loop-rest l = length l.rest
