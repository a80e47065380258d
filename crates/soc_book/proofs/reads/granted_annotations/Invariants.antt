use Rattle.std.proofs.Common.{◌≡◌, ◌++◌}
use Rattle.soc_book.proofs.Words.{granted_annotations}
use Rattle.soc_book.proofs.reads.granted_annotations.Given as goal

-- the pairs so far, and those that are left
abbrev pub invariant-loop-name : goal.invariant-loop-name
invariant-loop-name l = l.shown ++ granted_annotations l.caller l.name-iterator ≡ granted_annotations l.caller l.annotations
