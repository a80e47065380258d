use Rattle.std.proofs.Common.{◌≡◌, ◌≤◌, take}
use Rattle.soc_sigrules.specs.Chars.{char_count}
use Rattle.soc_sigrules.proofs.chars.char_count.Given as goal

abbrev pub invariant-loop-byte : goal.invariant-loop-byte
invariant-loop-byte l = record {
  counted : l.count ≡ char_count (take l.byte-index l.text);
  within : l.count ≤ l.byte-index;
}
