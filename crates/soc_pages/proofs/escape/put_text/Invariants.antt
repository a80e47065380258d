use Rattle.std.proofs.Common.{◌≡◌, ◌++◌, take}
use Rattle.soc_pages.specs.Escape.{escaped}
use Rattle.soc_pages.proofs.escape.put_text.Given as goal

abbrev pub invariant-loop-byte : goal.invariant-loop-byte
invariant-loop-byte l = l.out.items ≡ l.initial.out.items ++ escaped (take l.byte-index l.byte-items)
