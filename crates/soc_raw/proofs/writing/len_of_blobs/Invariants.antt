use Rattle.std.proofs.Common.{◌≡◌, ◌+◌, length}
use Rattle.std.specs.Prelude.{flat_map}
use Rattle.soc_raw.specs.Record.{pair_text}
use Rattle.soc_raw.proofs.writing.len_of_blobs.Given as goal

-- the length of the pairs so far, and of those that are left
abbrev pub invariant-loop-name : goal.invariant-loop-name
invariant-loop-name l = l.total + length (flat_map pair_text l.name-iterator) ≡ 4 + length (flat_map pair_text l.blobs)
