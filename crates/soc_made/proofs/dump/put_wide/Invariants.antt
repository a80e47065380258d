use Rattle.std.proofs.Common.{◌≡◌, ◌++◌, take}
use Rattle.soc_made.specs.Dump.{wide}
use Rattle.soc_made.proofs.dump.put_wide.Given as goal

abbrev pub invariant-loop-code : goal.invariant-loop-code
invariant-loop-code l = l.dump.items ≡ l.initial.dump.items ++ wide (take l.code-index l.text)
