use Rattle.std.proofs.Common.{◌≡◌, ◌+◌, ◌-◌, ◌*◌, [], length, take, drop}
use Rattle.byteorder.specs.Endian.{little_number}
use Rattle.soc_dump.specs.Part.{places}
use Rattle.soc_dump.proofs.ListLemmas.{Reading}
use Rattle.soc_dump.proofs.exception.read_parameters.Given as goal

abbrev pub invariant-loop-index : goal.invariant-loop-index
invariant-loop-index l = record {
  all : length l.info ≡ 15;
  read : Reading (λ parameter. parameter) (λ at. little_number 8 (drop at l.entry)) (λ _. []) (places 40 8 15)
      (places (40 + l.index * 8) 8 (15 - l.index)) (take l.index l.info);
}
