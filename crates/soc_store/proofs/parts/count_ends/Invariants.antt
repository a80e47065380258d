use Rattle.std.proofs.Common.{◌≡◌, length, take}
use Rattle.soc_store.specs.inner.Parts.{AreCounted, blocks_of, postings_in}
use Rattle.soc_store.proofs.parts.count_ends.Given as goal

abbrev pub invariant-loop-part : goal.invariant-loop-part
invariant-loop-part l = record {
  count : l.count ≡ length (postings_in (take l.part-index l.parts));
  blocks : blocks_of l.parts ≡ blocks_of l.initial.parts;
  counted : AreCounted 0 (take l.part-index l.parts);
}
