use Rattle.std.proofs.Common.{◌≡◌, ◌++◌}
use Rattle.soc_raw.proofs.copies.copy_of_blobs.Given as goal

-- the pairs so far, and those that are left
abbrev pub invariant-loop-name : goal.invariant-loop-name
invariant-loop-name l = l.copy ++ l.name-iterator ≡ l.blobs
