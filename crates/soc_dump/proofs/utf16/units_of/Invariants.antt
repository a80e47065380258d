use Rattle.std.proofs.Common.{◌≡◌, take}
use Rattle.soc_dump.specs.Entries.{units}
use Rattle.soc_dump.proofs.utf16.units_of.Given as goal

abbrev pub invariant-loop-index : goal.invariant-loop-index
invariant-loop-index l = l.found.items ≡ take l.index (units l.bytes)
